pub mod Commands
pub mod Letters
pub mod Names
mod NumberTexts
mod RangeTexts
pub mod Reasons
mod Refusals
pub mod Settings
