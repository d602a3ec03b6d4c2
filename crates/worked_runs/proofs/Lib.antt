pub mod Feeding
pub mod CutFacts
pub mod Verdicts
