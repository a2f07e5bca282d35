pub mod Accepted
pub mod BadInput
pub mod Datagrams
pub mod Handing
pub mod Record
pub mod Turns
