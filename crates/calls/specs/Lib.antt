-- What documents 01 and 02 say of the answer to a record, of ends and of slopes.
pub mod Answers
pub mod Guarantee
pub mod Beside
