-- The laws of the formulas.
pub mod Combined
pub mod Sums
pub mod Loops
pub mod Kept
pub mod WithoutLij
pub mod Sizes
pub mod Pairs
pub mod Mie
pub mod Bounds
pub mod Eight
