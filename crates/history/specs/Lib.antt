pub mod Links
pub mod Fits
pub mod Asking
pub mod Replays
pub mod Seen
pub mod Opening
pub mod Law
pub mod Next
