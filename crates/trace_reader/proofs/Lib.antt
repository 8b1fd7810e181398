pub mod Refusals
pub mod SourceBytes
pub mod CutTexts
pub mod Fillings
pub mod UniqueTexts
