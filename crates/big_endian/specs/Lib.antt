-- Numbers and doubles as bytes.
pub mod Bytes
