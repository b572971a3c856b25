-- What each call hands back of a pass, and that each statement leaves one answer.
mod Handing
mod Listing
mod Rooms
pub mod Only
