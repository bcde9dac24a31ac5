mod Alignments
mod AlignedPositions
mod Canonical
mod Halves
mod Indices
pub mod PowersOfTwo
