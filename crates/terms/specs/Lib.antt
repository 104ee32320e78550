pub mod Limits
pub mod Side
pub mod BySide
