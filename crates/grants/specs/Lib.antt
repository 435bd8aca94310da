pub mod Smallest
pub mod Granting
pub mod Searching
pub mod Outcomes
