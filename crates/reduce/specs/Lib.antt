-- Reducing a query: which lines may go.
pub mod Alone
pub mod Columns
pub mod Extends
pub mod LineTargets
pub mod Links
pub mod PairNumbers
pub mod Pairs
