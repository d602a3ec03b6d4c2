pub use Rattle.kt_node.specs.Links
pub mod Form
pub mod Ranges
pub mod Reading
pub mod Sameness
