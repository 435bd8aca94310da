-- The page of `rules`: a rule's bytes, within their room, and all of them one behind the other.
pub mod Bound
pub mod Owing
pub mod Entry
pub mod Progress
pub mod Loaded
