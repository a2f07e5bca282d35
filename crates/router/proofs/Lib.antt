pub mod Routes
mod Tables
mod Known
