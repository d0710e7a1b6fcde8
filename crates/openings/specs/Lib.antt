pub mod Amounts
pub mod Books
