-- The rules of M-100 for values with slopes.
pub mod Rules
