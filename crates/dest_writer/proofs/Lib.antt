pub mod LinesLemmas
pub mod PlaceLemmas
pub mod DriveLemmas
pub mod WriterLemmas
pub mod StoredLemmas
