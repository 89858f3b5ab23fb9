pub mod Kept
pub mod Looking
pub mod Positions
