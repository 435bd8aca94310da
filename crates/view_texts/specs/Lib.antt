-- Views by their numbers, with their own text.
pub mod ViewTexts
