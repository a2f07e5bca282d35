pub mod Route
pub mod Faults
pub mod Names
pub mod Replay
pub mod LiveRoute
