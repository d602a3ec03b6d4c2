pub use Rattle.kt_plan.specs.Names
pub mod Lines
pub mod Faults
pub mod Said
pub mod Scenario
pub mod Steps
pub mod Draft
pub mod Written
