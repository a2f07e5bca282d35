pub mod SettledParts
pub mod Settled
pub mod SettledThreads
pub mod SettledBytes
pub mod LinesTaken
