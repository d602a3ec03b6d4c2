pub mod FieldFacts
pub mod ChainFacts
pub mod PlaceFacts
pub mod GatherFacts
pub mod WritingFacts
pub mod SpellingFacts
pub mod TextFacts
pub mod FaultFacts
