-- The first query text of an input, read in one pass.
pub mod Places
pub mod TermsAt
pub mod Scanned
