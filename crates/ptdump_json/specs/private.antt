pub mod Flags
pub mod NoFloats
pub mod Objects
pub mod Reported
