pub mod Masks
pub mod Walking
