-- Laws of the answers, and the theorems on records with ends and with slopes.
pub mod Answers
pub mod Guarantee
pub mod Beside
pub mod VersionOne
