-- What documents 01 and 02 say of refusals.
pub mod Code
