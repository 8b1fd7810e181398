pub mod Kept
pub mod ListingFields
