pub mod Searches
pub mod Closing
pub mod Explaining
pub mod Law
pub mod Samples
pub mod Formed
