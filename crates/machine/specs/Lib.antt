pub mod Laws
pub mod Machine
pub mod Words
