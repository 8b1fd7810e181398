pub mod AddedCalls
mod Causes
