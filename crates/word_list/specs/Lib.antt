pub mod Value
pub mod Order
