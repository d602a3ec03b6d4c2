pub mod Spelling
pub mod Texts
pub mod Reading
pub mod FaultTexts
