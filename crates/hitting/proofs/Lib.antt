-- The lightest lists, the list that is chosen of them, and that it is the best.
pub mod Lightest
pub mod Chosen
pub mod Compared
-- The table that is filled, and the list that is read off it.
pub mod LeastWeight
pub mod Leading
