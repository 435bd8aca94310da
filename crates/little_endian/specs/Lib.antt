-- Bytes as one number.
pub mod LittleEndian
