pub mod Records
pub mod Lists
pub mod Views
pub mod Openings
pub mod Settles
pub mod Calls
