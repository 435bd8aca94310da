-- A query's line written to a buffer.
pub mod Printing
