pub mod Runs
pub mod Walks
pub mod Sorts
pub mod Serializers
pub mod Hearings
pub mod Serials
