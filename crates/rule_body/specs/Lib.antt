-- What reading the body and the head of a rule gives.
pub mod Body
pub mod Head
