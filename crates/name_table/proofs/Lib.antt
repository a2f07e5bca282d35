mod SameTextLemmas
mod Slots
pub mod CallerLemmas
