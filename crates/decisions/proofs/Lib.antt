-- One deciding call.
pub mod Masks
pub mod Decides

-- A session lent to a call.
