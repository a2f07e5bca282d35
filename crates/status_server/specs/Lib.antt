pub mod OwnHost
pub mod Route
