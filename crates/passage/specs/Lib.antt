-- What a passage letter is: its bytes, the request, its digests and exact length, the root worked out from it, and the order that checks it from 7 on.
pub mod Bytes
pub mod Request
pub mod Digests
pub mod Checking
pub mod Steps
