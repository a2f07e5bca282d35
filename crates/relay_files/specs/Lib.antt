pub mod Fault
pub mod Output
pub mod Files
pub mod Checksum
pub mod Configuration
pub mod Faults
pub mod Extended
