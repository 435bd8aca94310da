-- The page of `grant`, and that there is one.
pub mod Replied
pub mod OnePage
