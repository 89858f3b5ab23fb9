pub mod Index
pub mod Logs
pub mod Marked
pub mod Asked
pub mod Checks
pub mod Closures
pub mod State
pub mod Made
