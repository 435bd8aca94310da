-- What importing a rule rests on.
pub mod Named
pub mod Numbered
pub mod Lines
pub mod Placed
pub mod Faults
pub mod Ends
pub mod Replies
pub mod Outcomes
