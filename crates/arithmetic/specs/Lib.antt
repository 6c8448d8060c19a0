-- Fractions, doubles and their operations; the recipes of the elementary functions; the record that formulas are written over, and its meanings in doubles.
pub mod Fraction
pub mod Value
pub mod Rounding
pub mod Next
pub mod Root
pub mod Rounds
pub mod Cases
pub mod Constants
pub mod Basic
pub mod Recipes
pub mod Arithmetic
pub mod Sums
pub mod Doubles
pub mod Series
pub mod Reduction
pub mod Failures
