pub mod Laws
pub mod Turns
pub mod PriceLaws
pub mod Sides
pub mod Keys
