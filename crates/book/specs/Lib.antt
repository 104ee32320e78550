pub mod Ladders
pub mod Orders
pub mod Ranks
pub mod Refusals
pub mod Sorted
pub mod OrderRank
