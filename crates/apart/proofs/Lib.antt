-- Rows in a buffer.
pub mod Rows
-- Lines of a query, and their rows.
pub mod OtherLines
pub mod ShownLines
pub mod FrozenLines
-- The rows that keep what views show.
pub mod TableViews
pub mod MarkedViews
pub mod MarkedRows
pub mod ViewRows
-- Both archives.
pub mod Told
pub mod BothArchives
pub mod SettledLines
pub mod Replies
-- What replies mean.
pub mod Outcomes
