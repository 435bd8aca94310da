-- What this crate rests on.
pub mod Leads
pub mod Keys
pub mod NameRead
pub mod Series
pub mod ArgFields
pub mod ArgsHeld
pub mod ArgsRead
pub mod AtomValues
pub mod AtomRead
