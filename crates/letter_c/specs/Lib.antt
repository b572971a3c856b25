-- What the calls of letters for C answer and leave behind their pointers.
pub mod Letters
pub mod Finder
