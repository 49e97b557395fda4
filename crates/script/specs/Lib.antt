pub mod Commands
pub mod Faults
pub mod Lines
pub mod Listing
pub mod Numbers
pub mod Progress
pub mod Words
