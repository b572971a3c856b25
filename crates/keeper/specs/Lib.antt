-- What the calls for C answer and leave behind their pointers.
pub mod Calls
pub mod Modes
