pub mod Worst
pub mod Settling
pub mod Cycle
pub mod Outcome
pub mod Whole
pub mod Depth
pub mod Law
pub mod Samples
