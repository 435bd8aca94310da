-- The laws of what writing leaves in a buffer.
pub mod Wrote
pub mod Decimal
