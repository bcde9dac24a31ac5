pub mod Levels
pub mod Levels57
pub use Rattle.x86_64_model.specs.Position
pub use Rattle.x86_64_model.specs.Successor
pub use Rattle.x86_64_model.specs.Alignment
