pub mod Explaining
pub mod WordsGiven
