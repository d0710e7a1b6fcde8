pub mod Batches
pub mod Steps
pub mod Runs
pub mod Sealed
pub mod Laws
