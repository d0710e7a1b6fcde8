pub mod Rooms
pub mod Houses
pub mod Calls
pub mod Tellings
pub mod Answering
pub mod Promises
pub mod WorkedShift
