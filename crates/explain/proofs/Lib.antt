-- Searching a list.
pub mod Search
-- Words gathered once.
pub mod Distinct
-- The labels, one by one.
pub mod Lacking
pub mod Gathered
-- Their order.
pub mod Order
-- Examples.
pub mod Worked
