pub mod Collecting
pub mod Placing
pub mod Ramping
pub mod RoundLawsBits
pub mod RoundLawsChannel
pub mod RoundLawsSignals
pub mod Undisturbed
