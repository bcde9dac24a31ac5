pub mod EntryEnds
pub mod EntryRules
pub mod LeafEntries
pub mod Flags
pub mod PageCallRules
pub mod TableFlagConditions
pub mod TableFlagRules
