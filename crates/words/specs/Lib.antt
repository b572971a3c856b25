-- Lists by their rule, and words as bytes.
pub mod Build
pub mod Words
