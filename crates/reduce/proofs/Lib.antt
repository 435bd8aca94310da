-- Lines that one map can send to lines, column by column.
pub mod Agree
pub mod Looked
pub mod KeptColumns
pub mod FirstColumns
-- The pairs of a line and a target.
pub mod PairNumbers
pub mod PairRows
pub mod Links
pub mod LaidColumns
pub mod TargetLines
pub mod GoingPairs
pub mod OwnTerms
pub mod LinkedPairs
pub mod PairedLines
-- A map as an assignment of targets, and the search for one.
pub mod Rows
pub mod Assign
pub mod Maps
-- Taking lines out.
pub mod Passes
pub mod GoingAlone
pub mod Staying
