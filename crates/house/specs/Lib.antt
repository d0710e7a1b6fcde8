pub mod Numbers
pub mod Views
pub mod Choices
pub mod Listing
pub mod Openings
pub mod Performing
