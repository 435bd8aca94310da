-- Rows written, and the page of `apart`.
pub mod Written
pub mod Replied
