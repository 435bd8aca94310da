-- From the keys of variables to numbers.
pub mod Names
pub mod Lines
