pub mod Calls
pub mod Rewriting
pub mod OneOrder
pub mod Comparing
pub mod Outcomes
pub mod Demands
