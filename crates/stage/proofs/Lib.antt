pub mod Driving
pub mod Dropping
