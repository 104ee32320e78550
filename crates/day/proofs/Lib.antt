pub mod Onward
pub mod Played
