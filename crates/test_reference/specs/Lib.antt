-- The meaning of the plain program's types.
pub mod PathEntries
pub mod Windows
pub mod Calls
pub mod Fronts
pub mod Cleaning
pub mod Machine
