pub mod PageBits
pub mod PageMoves
pub mod PageWords
pub mod UntoldCopies
