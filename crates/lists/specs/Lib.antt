pub mod Words
pub mod Gaps
