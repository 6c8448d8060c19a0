-- What is asked of a pattern.
pub mod Patterns
