pub mod Colours
pub mod Links
pub mod ShortSizes
pub use Rattle.text.specs.Sizes
