-- Laws of the definitions.
pub mod Written
pub mod Inverse
