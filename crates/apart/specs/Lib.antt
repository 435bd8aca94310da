pub mod Archives
pub mod Outcomes
pub mod Buffer
pub mod Unsettled
pub mod Marking
pub mod Writing
pub mod Telling
