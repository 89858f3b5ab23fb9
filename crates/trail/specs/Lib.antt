pub mod Positions
pub mod Trails
pub mod Kept
