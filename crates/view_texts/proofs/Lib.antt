-- Views and their text.
pub mod Viewed
