-- The words of a value and of a list, one by one.
pub mod Value
-- Insertion, and the order that it makes.
pub mod Insert
pub mod Sorted
