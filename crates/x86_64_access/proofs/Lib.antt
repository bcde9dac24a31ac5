pub mod ReservedBySome
mod Deciding
mod Walked
pub mod Along
mod Agreement
mod Marks
mod MarkedHierarchies
mod MarkedCaches
mod MarkingProcessors
mod SwitchingMarks
mod RightsTable
mod Corners
