pub use Rattle.kt_base.specs.Numbers
pub mod Words
pub mod Capped
pub mod Records
pub mod Writing
