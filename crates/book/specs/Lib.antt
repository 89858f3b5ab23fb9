pub mod Pieces
pub mod Words
pub mod Lines
pub mod Books
pub mod Canonical
pub mod Places
pub mod Writing
