mod TableTests
pub mod CallParts
pub mod Cohorts
pub mod Following
pub mod Indexed
pub mod Keeping
pub mod LabelLists
pub mod Pairs
pub mod Tests
