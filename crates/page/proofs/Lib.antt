-- Lines shown and numbers listed.
pub mod Pieces
pub mod FoundLine
pub mod Refused
pub mod Listed
pub mod Texts
