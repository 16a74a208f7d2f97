-- The lemmas.
pub mod Planned
pub mod Passing
pub mod Sets
pub mod NextSteps
pub mod MachineSteps
pub mod NewMachine
pub mod SchedulerSteps
