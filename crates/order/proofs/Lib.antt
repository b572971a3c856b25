-- The laws of the refusal order.
mod Tests
pub mod Laws
