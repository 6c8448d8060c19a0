-- What documents 01 and 02 say of a call on a buffer, and of a run.
pub mod Call
pub mod Run
pub mod Apart
