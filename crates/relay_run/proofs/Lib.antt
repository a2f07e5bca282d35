pub mod RunEndings
