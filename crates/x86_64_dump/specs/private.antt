pub mod NotesLeft
pub mod FrameNumbers
pub mod TablesRead
pub mod Search
pub mod Merging
pub mod Magics
pub mod FileParts
