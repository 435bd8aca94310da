-- The laws of bytes as one number.
pub mod LittleEndian
