pub mod Soundness
pub mod SortedPlaces
pub mod TableLaws
pub mod PoolLaws
pub mod SegmentLaws
