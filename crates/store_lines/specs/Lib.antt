pub mod DestCarryOver
