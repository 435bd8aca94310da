-- Labels that hold no granted view, and the views that hit them.
pub mod Lacking
pub mod HitWords
-- What adding views means, and that the smallest grant is one.
pub mod Added
pub mod Unique
-- The words as the code gathers them.
pub mod Gathering
-- The replies.
pub mod Replies
pub mod Contract
pub mod Outcomes
