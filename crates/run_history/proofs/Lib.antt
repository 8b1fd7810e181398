pub mod BriefAnswers
pub mod FoundPlaces
pub mod KeptEntries
