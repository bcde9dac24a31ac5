pub mod Way
pub mod Memory
pub mod Map
pub mod Range
pub mod Entry
pub mod CleanUp
pub mod Translate
pub mod Window
