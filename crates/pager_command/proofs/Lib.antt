pub mod Words
pub mod Completeness
mod OneCommand
mod PrintedRuns
mod PlannedRuns
mod CurveRuns
mod FormRuns
mod LargeRuns
mod Results
pub mod CheckRuns
mod StreamEnds
