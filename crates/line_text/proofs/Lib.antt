pub mod ConnectionLemmas
pub mod CutLemmas
pub mod DatagramLemmas
pub mod DigitLemmas
pub mod FeedLemmas
pub mod FieldLemmas
pub mod LineLemmas
pub mod NearestLemmas
pub mod PlaceLemmas
mod PlainLemmas
pub mod PrintLemmas
pub mod ReadBackLemmas
pub mod ReadOnLemmas
pub mod SplitLemmas
pub mod ValueLemmas
