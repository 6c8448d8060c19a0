-- The formulas of the Rust, written once over any arithmetic, in its names and order; and its coefficient tables.
pub mod Tables
pub mod Digits
pub mod Factorials
pub mod Literals
pub mod Parameters
pub mod HardSphere
pub mod PackingFraction
pub mod ReferenceEnergy
pub mod OneFluid
pub mod BetaEff
pub mod Rows
pub mod Inputs
pub mod Held
pub mod Bh
pub mod Wca
pub mod Eos
