pub mod Headline
pub mod Json
pub mod LossWords
pub mod MetricTable
pub mod Metrics
pub mod Plain
