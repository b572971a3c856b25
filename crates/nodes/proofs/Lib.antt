-- Laws of nodes.
pub mod Joined
mod Folds
pub mod From
pub mod Local
