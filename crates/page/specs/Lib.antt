-- What the pages of the modes have in common.
pub mod Sizes
pub mod Refusal
pub mod Numbers
