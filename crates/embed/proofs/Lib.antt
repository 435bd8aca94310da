-- A text that is one query, all of it.
pub mod Whole
-- Lists of calls.
pub mod Demanded
