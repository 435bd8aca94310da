-- The mode `apart`, and rows as lines.
pub mod ApartPage
pub mod Rows
