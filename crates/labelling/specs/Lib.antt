pub mod Settled
pub mod Posed
pub mod Text
