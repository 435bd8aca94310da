-- The laws of the cut, along the lines of an input.
pub mod Line
pub mod Walk
