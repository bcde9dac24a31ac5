mod Entries
mod Steps
mod Pages
mod PageBits
pub mod Placed
pub mod Tables
pub mod Visited
mod Summed
pub mod Joined
mod Whole
mod Spans
mod Runs
mod Levels
pub mod Filling
pub mod EntriesWritten
pub mod Unselected
pub mod Distinct
pub mod FirstOfKinds
