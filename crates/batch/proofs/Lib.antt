-- Laws of batches: one append and a run of them, the first refusal foreseen, the loop that appends, how each answer is reached.
pub mod Next
pub mod OneByOne
mod Foreseen
mod Writing
pub mod Outcome
