-- What document 01 checks of a case record.
pub mod Checks
