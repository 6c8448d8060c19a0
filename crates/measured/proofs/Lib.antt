-- The operation that ranges alone have is the last of theirs.
pub mod Last
