pub mod Closing
pub mod AfterRun
pub mod Running
