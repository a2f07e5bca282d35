pub mod CommonOrder
pub mod OrderSearch
