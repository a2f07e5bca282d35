pub mod Plans
pub mod Datagrams
pub mod Feeding
pub mod Representing
pub mod PointsSent
pub mod PiecesFound
