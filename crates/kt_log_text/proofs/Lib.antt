pub mod StepFacts
pub mod GatherFacts
pub mod SpellingFacts
pub mod TextFacts
pub mod WritingFacts
pub mod FaultFacts
