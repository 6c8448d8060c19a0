-- What document 02 says of moves.
pub mod Moves
pub mod Promise
