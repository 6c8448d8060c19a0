-- A law of the powers of a number type, which the trait asks of each (src/dual_num.rt).
pub mod Powers
