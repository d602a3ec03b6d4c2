pub mod Cohorts
pub mod Beginning
pub mod Hearing
pub mod Targets
pub mod CheckpointRulings
pub mod NoteLists
pub mod NoteTests
pub mod RollbackRulings
