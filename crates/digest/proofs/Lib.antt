-- What follows from the promise.
pub mod Keys
pub mod UnderKey
pub mod Only
