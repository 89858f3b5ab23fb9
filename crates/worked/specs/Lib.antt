pub mod Replays
pub mod Edges
pub mod Worked
