pub mod Leading
pub mod Turning
pub mod Finding
