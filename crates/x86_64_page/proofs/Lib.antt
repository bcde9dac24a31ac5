pub mod Blocks
mod Indices
mod InTurn
mod InTurnInclusive
pub mod Multiples
mod RangesListed
mod StepsOfPages
mod Sums
