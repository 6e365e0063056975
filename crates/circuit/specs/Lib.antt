pub mod Meaning
pub mod Working
pub mod Packed
pub mod Following
pub mod Entries
pub mod EitherOrder
