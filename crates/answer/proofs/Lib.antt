-- Laws of the definitions.
pub mod Writing
