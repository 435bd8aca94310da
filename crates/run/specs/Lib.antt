pub mod Sizes
pub mod Output
pub mod Next
pub mod Run
pub mod Writing
pub mod Program
