pub mod Told
pub mod Translations
