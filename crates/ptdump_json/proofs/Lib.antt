pub mod AccessLaws
pub mod Named
pub mod Padded
pub mod Results
pub mod WalkLaws
pub mod WalkValues
