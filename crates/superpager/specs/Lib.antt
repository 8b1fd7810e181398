pub mod Asked
pub mod NewStores
