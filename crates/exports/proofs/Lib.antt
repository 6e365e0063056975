pub mod Records
pub mod Told
pub mod Apart
pub mod Ranges
pub mod CircuitRanges
pub mod Theorems
