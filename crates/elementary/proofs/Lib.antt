-- The laws that the proofs of the functions cite.
pub mod Floor
pub mod Place
pub mod PowerOfTwo
pub mod Reduction
pub mod Words
pub mod Cases
