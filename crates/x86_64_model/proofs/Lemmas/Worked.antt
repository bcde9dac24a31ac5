pub mod Alike
pub mod Fitting
pub mod FiveLevels
pub mod FourLevels
pub mod PageMappings
pub mod Refusals
