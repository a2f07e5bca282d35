pub mod AcceptedLemmas
pub mod MomentLemmas
pub mod RanLemmas
pub mod DatagramLemmas
pub mod HandingLemmas
