pub mod Agrees
pub mod Fronts
pub mod Steps
pub mod Walked
pub mod Windows
pub mod WrittenOut
