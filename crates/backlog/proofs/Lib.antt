pub mod LinesLemmas
pub mod ConnectionsLemmas
pub mod SegmentsLemmas
