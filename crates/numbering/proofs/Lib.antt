-- Keys: searching for one, and entering those of lines one by one.
pub mod Search
pub mod Named
-- Which keys there are.
pub mod Keys
-- The numbers that they give.
pub mod Numbered
