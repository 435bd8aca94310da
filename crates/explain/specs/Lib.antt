pub mod Explanation
pub mod Telling
pub mod Worked
