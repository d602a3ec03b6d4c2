pub use Rattle.kt_spacetime.specs.Events
pub use Rattle.kt_plan.specs.Limits
pub mod Lines
pub mod Report
pub mod Exact
pub mod Shown
pub mod Unwilling
pub mod Told
