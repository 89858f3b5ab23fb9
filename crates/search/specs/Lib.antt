pub mod Outcomes
pub mod Recorders
pub mod Searches
pub mod Runs
pub mod Solved
