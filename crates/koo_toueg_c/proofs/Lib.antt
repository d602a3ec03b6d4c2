mod Refusals
mod Exactly
mod Loaded
mod Told
pub mod PartReaders
