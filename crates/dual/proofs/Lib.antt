-- The laws of the rules.
pub mod Constants
pub mod Cases
pub mod Values
pub mod Agreement
pub mod Failures
pub mod Rows
