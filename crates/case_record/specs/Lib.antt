-- What document 01 says of case records.
pub mod Layout
pub mod Record
pub mod Writing
