pub mod Ranks
pub mod Board
pub mod Kinds
pub mod Laws
pub mod Orders
pub mod Lawfuls
