-- The text of a query: how it is written, how it is read, and the queries that a text can say.
pub mod Print
pub mod Text
pub mod Value
pub mod WellRead
