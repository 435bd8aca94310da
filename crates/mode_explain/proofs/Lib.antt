-- The page of `explain`.
pub mod WordPieces
pub mod Replied
