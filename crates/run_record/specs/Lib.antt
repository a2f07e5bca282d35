pub mod ScriptLines
pub mod Laws
pub mod QueueSteps
pub mod PartEvents
pub mod RunScript
pub mod Making
pub mod Recorded
