pub mod Order
pub mod Best
pub mod Table
