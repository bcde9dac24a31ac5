pub mod Checked
pub mod Exact
pub mod Huge
pub mod Keyed
pub mod MarkSteps
pub mod Marked
pub mod Meant
pub mod Walked
