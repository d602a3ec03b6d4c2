pub use Rattle.kt_base.specs.Numbers
pub mod Names
pub mod Limits
pub mod Failures
