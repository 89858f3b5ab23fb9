pub mod Index
pub mod Links
pub mod Queue
pub mod Rows
pub mod Table
pub mod Checks
pub mod State
pub mod Made
