pub mod Wire
pub mod Calls
pub mod Choices
pub mod Promises
