-- Laws of moves.
pub mod Moves
pub mod Held
pub mod Back
pub mod ToVersion2
pub mod Inserted
pub mod Promise
