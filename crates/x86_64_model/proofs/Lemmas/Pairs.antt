pub mod Alike
pub mod AlikeEntries
pub mod AlikeMaps
pub mod AlikeRules
