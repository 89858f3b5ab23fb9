pub mod Lists
pub mod Claims
pub mod Answers
pub mod Positions
