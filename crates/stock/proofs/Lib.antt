pub mod Bounds
pub mod Replays
pub mod Causes
pub mod Places
pub mod Layings
pub mod Packings
