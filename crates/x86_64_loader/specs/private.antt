pub mod Held
pub mod Loads
