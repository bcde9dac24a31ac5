pub mod WalkedPart
pub mod Translations
pub mod TranslatedAddresses
