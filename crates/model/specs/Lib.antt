-- What the texts say, in the theory's terms, and the values that hold it.
pub mod Abstract
pub mod Fields
pub mod Limits
pub mod Checks
pub mod Marks
pub mod Print
pub mod Value
pub mod Parsed
pub mod Variables
pub mod Rows
pub mod LineChecked
