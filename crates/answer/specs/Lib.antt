-- What documents 01 and 02 say of answers.
pub mod Answer
