pub mod Jumping
pub mod Next
pub mod Explained
