-- A text asked, and words written to a lent buffer.
pub mod Asked
pub mod Copied
-- Labels.
pub mod Listed
