-- What the contributions of a mixture keep, on every state.
pub mod Sent
pub mod Agreement
pub mod Sloped
