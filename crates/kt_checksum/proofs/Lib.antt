pub mod Apart
pub mod ByWords
pub mod Linear
pub mod SealedTexts
pub mod Tables
