pub mod SpaceTables
pub mod Writes
