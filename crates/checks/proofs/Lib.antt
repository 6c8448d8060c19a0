-- Laws of the tests, what follows from checks that pass, and examples.
pub mod Inside
pub mod Accepted
pub mod Real
pub mod Examples
