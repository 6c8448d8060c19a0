-- What is asked of an exponent.
pub mod Exponents
