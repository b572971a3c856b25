-- Runs of appends and batches, and two batches one after the other.
pub mod Calls
