pub mod Parts
pub mod Openings
pub mod Frames
pub mod NotesRead
pub mod Headers
pub mod NotesTold
pub mod SameMappings
pub mod Closed
pub mod Listing
mod Placed
pub mod Places
mod Held
mod Rows
pub mod Lines
pub mod Digits
pub mod Merging
pub mod Stretches
mod FileParts
mod KernelTexts
