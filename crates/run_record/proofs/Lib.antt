pub mod Words
pub mod LineMeanings
pub mod ScriptLemmas
pub mod Making
pub mod Recording
pub mod Lists
pub mod Orders
