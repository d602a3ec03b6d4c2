pub mod Buffers
pub mod Numbers
pub mod Stored
pub mod Merged
pub mod NodeNumbers
pub mod Nodes
