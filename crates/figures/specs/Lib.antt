pub mod Outcomes
pub mod Tallies
pub mod Verdicts
