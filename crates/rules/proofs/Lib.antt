-- What holds of rules.
-- The query that a rule becomes: its names' numbers, its answers, and its text.
pub mod Names
pub mod Answers
pub mod Checked
pub mod WellRead
pub mod Shown
-- Texts that are rules.
pub mod Pieces
pub mod Series
pub mod Atoms
pub mod Printed
