-- The rules for ranges, exact readings, and what ends enclose.
pub mod Rules
pub mod Exact
pub mod Enclosed
pub mod Positive
