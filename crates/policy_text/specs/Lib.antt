-- Policies: what a text declares, when it loads, and how it is written.
pub mod Declared
pub mod Text
pub mod WellFormed
pub mod Print
pub mod Example
pub mod Policy
pub mod Abstract
