pub mod Books
pub mod Meanings
pub mod Led
pub mod Homes
pub mod Openings
pub mod Rules
pub mod Calling
