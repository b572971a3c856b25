-- What a request for a passage is refused with, and what the code's own steps ask.
pub mod Order
pub mod Steps
