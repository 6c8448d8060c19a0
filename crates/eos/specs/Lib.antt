-- The contributions of a mixture on any state, and the state whose densities start with slopes.
pub mod Contributions
pub mod Slopes
