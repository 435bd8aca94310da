-- The page of `labels`.
pub mod LinePieces
pub mod Replied
