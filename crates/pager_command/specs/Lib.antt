pub mod Forms
pub mod Runs
pub mod MadeRuns
pub mod Messages
pub mod Views
pub mod Checks
pub mod StreamRuns
