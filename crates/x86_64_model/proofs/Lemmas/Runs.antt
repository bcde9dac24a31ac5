pub mod Runs
pub mod RunWalks
