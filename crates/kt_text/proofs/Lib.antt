pub mod FieldFacts
pub mod NumberFacts
pub mod RecordFacts
pub mod ReaderFacts
pub mod PieceFacts
pub mod LineFacts
pub mod CapFacts
pub mod CappedFacts
