-- Laws of the definitions, and an example.
pub mod Sizes
pub mod Rows
pub mod Values
pub mod Places
pub mod Pieces
pub mod Versions
pub mod Inverse
pub mod Examples
