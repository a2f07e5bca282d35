pub mod Key
pub mod Entry
pub mod Placing
pub mod Servers
pub mod Walk
pub mod RingOf
pub mod Laws
