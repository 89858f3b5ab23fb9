pub mod Sets
pub mod Left
pub mod Stored
pub mod Rows
pub mod Learning
