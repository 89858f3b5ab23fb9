pub mod Edges
pub mod Worked
