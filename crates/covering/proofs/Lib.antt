-- General facts.
pub mod Words
-- Covering.
pub mod Rules
pub mod Columns
-- Labels.
pub mod Views
pub mod Masks
pub mod Prepared
