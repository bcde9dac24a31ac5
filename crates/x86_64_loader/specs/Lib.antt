pub mod Maps
pub mod Pages
pub mod Segments
pub mod Loads
pub mod private
