-- One deciding call.
pub mod ReplyWords
pub mod Held
pub mod Steps
-- Lists of calls.
pub mod Calls
pub mod Exists
-- What a contract leaves open: nothing.
pub mod Unique
pub mod Stays
pub mod Numbers
-- Labels.
pub mod Rewriting
pub mod OneOrder
pub mod Compared
-- Explanations.
pub mod SettledExactly
-- The demands.
pub mod Demands
