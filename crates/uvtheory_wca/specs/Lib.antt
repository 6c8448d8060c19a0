-- The lengths as the code holds them.
pub mod Lengths
