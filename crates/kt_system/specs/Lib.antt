pub mod Reads
pub mod Systems
pub mod Takes
pub mod Shown
pub mod Tallies
pub mod Keeps
pub mod Counts
pub mod Kept
