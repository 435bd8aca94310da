-- Replies by their variants.
pub mod Tags
-- Replies read back from their numbers.
pub mod Told
