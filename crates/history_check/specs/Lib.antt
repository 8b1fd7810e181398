pub mod Verdicts
pub mod Ready
pub mod Shown
pub mod Standing
pub mod Texts
