pub mod Works
pub mod Order
pub mod Laws
pub mod Examples
