-- A passage letter taken apart: what is answered, and what the code's own steps are called.
pub mod Fields
pub mod Steps
