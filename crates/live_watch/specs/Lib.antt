pub mod Agreement
pub mod SentPoints
