-- Items written, one height after the other, whole or not at all.
mod Putting
mod Written
