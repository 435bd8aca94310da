-- A policy value with one entry more.
pub mod GrantWords
pub mod More
-- What turns a line of each block back, and what it declares.
pub mod Lines
pub mod TableFaults
pub mod ViewFaults
pub mod PartitionFaults
-- The walk over the lines, block by block.
pub mod Blocks
pub mod Walk
pub mod Start
-- What a text that is accepted loads to.
pub mod Accepted
