pub mod Leftovers
pub mod Receivers
pub mod FilledSets
pub mod Orphaned
pub mod Faults
pub mod CauseRows
pub mod SameLists
pub mod Comparing
mod Bases
mod DecidedRows
mod OpenInstances
