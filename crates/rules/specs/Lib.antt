-- Request 3, "Queries as the papers print them": what a rule says, what it means, how it is written and read, and the query it becomes.
pub mod Rule
pub mod Meaning
pub mod Print
pub mod Text
pub mod Formed
pub mod Numbering
pub mod Checks
