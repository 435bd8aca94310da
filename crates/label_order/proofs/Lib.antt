pub mod Halves
pub mod Order
