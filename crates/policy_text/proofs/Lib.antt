-- Which lines are taken.
pub mod Faults
-- What a text loads to is well formed, and the text is that printed.
pub mod Declares
pub mod Loaded
-- What turns a text back.
pub mod Numbers
-- What is printed is read back.
pub mod Blocks
pub mod Sizes
pub mod Short
pub mod Walk
-- The theorems, and document 01's example.
pub mod Loads
pub mod Example
-- The value stands for what the text declares.
pub mod Ascend
pub mod Grants
pub mod Bridge
