pub mod Faults
pub mod Map
pub mod Offsets
pub mod Rights
