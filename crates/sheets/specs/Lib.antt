pub mod Sheet
pub mod Steps
pub mod Lines
pub mod Views
