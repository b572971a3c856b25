-- What a batch promises: the count, what is written, the first refusal; two batches; bytes beyond the size; runs of appends and batches.
mod Runs
mod Written
mod Same
mod Cases
pub mod Laws
pub mod Both
pub mod Local
pub mod Calls
