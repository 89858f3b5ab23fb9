pub mod Bounds
pub mod Settling
pub mod Depth
pub mod Distance
pub mod Samples
