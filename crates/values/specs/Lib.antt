pub mod Model
pub mod Words
pub mod Steps
pub mod Ranges
