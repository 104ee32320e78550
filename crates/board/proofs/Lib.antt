pub mod BothSides
pub mod Places
pub mod Bests
pub mod Soles
pub mod SlotLaws
