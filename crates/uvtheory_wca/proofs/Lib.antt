-- The lengths in memory.
pub mod Sizes
