-- What stands between two places of a text: digits, terms, lines.
pub mod Places
pub mod Digits
pub mod TermBytes
pub mod LinePlaces
-- The columns that are lent, and the lines of a query before a place.
pub mod LentWidths
pub mod LinesTo
