pub mod Calls
pub mod GivenUp
pub mod Many
pub mod NewOnes
pub mod Paired
pub mod Tables
pub mod Walks
pub mod Synced
