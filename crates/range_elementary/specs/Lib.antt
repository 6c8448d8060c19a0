-- Which powers of [1,1] are known.
pub mod Moderate
