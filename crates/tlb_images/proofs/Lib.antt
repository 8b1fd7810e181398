pub mod CountedLemmas
pub mod ImageLemmas
