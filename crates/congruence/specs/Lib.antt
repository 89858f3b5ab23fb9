pub mod Table
pub mod Congruence
pub mod Merges
pub mod Log
pub mod Equality
pub mod Samples
