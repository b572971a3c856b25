-- Laws of a letter.
pub mod Turns
pub mod Sides
pub mod Spelling
pub mod Apart
pub mod Fits
pub mod ItemsOf
pub mod Foreign
pub mod Only
