-- The labels of a query, one by one, and the partitions that settle it.
pub mod Granted
pub mod Lines
pub mod Written
pub mod Posing
pub mod Readings
-- What settling means.
pub mod Partitions
-- What a loaded policy holds.
pub mod Loaded
