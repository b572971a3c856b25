-- Laws of the first refusal by numbers alone.
pub mod Foreseen
