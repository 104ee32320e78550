pub mod Firsts
pub mod PriceTime
pub mod Sides
