-- Laws of the definitions, and document 01's case of a run.
pub mod Sizes
pub mod Running
pub mod Apart
pub mod Moved
pub mod Cases
