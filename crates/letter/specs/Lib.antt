-- What a proof letter is: its bytes, its items, the root worked out from it, and the order that checks it from 7 on.
pub mod Bytes
pub mod Items
pub mod Checking
