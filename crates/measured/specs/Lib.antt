-- The operations by number.
pub mod Applied
