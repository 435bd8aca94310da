-- Facts about the definitions of specs/.
pub mod Limits
pub mod Numbered
pub mod PartitionRead
pub mod TableRead
pub mod Told
pub mod ViewRead
pub mod Views
pub mod ViewsRead
