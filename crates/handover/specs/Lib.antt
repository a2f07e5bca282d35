pub mod FirstBytes
pub mod Rest
pub mod RestTurn
