-- The laws by which the code's tests meet the recipes in ranges.
pub mod Place
pub mod Mantissa
pub mod PowerOfOne
