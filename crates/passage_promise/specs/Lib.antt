-- What writer, checker and finder of passage letters promise together; and what a passage letter is beside the single letter.
pub mod Terms
pub mod Promise
pub mod Beside
