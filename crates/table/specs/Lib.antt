pub mod Tables
pub mod Steps
pub mod Next
pub mod Explained
