pub mod FieldLists
pub mod NameFacts
pub mod SpellingFacts
pub mod TextFacts
pub mod GatherFacts
pub mod WritingFacts
pub mod StepFacts
pub mod HeadFacts
pub mod OneMerge
pub mod NumberingFacts
pub mod PartFacts
pub mod KeepingFacts
pub mod HeldFacts
pub mod MergedFacts
pub mod StopFacts
pub mod AheadFacts
pub mod MergingFacts
pub mod MetFacts
mod Rowwise
mod CausalRows
pub mod ReadBack
mod LimitsAlone
