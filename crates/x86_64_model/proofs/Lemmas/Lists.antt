pub mod All
pub mod Members
pub mod Once
