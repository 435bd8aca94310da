-- The page of `check`.
pub mod Checked
-- What the other modes use: a policy that loaded, and a page within its room.
pub mod Loads
pub mod Within
