pub mod Areas
pub use Rattle.x86_64_dump.specs.VmCoreInfo
