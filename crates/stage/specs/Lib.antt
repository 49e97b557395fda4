pub mod Levels
pub mod Drops
pub mod Laws
pub mod Bounds
