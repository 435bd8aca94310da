-- The lines of a query, and those left.
pub mod Left
pub mod Lines
pub mod LaidRows
-- The words of a line.
pub mod HiddenBits
pub mod LineWords
-- Showing.
pub mod Seen
pub mod Shown
pub mod ShownTerms
