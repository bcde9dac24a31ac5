pub mod SpaceRuns
pub mod ProcessCalls
pub mod FirstEntry
pub mod KernelRuns
pub mod KernelCalls
pub mod PageUnmaps
mod AgainAtOffset
mod Listed
mod AlikeAfter
