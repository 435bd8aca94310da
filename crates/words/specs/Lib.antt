-- Words and their bits.
pub mod Bits
pub mod Sets
pub mod TestBits
