-- General facts.
pub mod Lists
-- Values with unused entries behind them, place by place.
pub mod Held
-- The parts of a policy value.
pub mod Tables
pub mod Terms
pub mod Lines
pub mod Marks
pub mod Entries
pub mod Columns
pub mod Clash
pub mod Views
pub mod Partitions
-- The whole.
pub mod Loadable
