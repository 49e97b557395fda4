mod Exact
mod Nominal
pub mod Order
pub mod Last
pub mod Limits
