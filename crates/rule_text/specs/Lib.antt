-- What reading the pieces of a rule gives, as the code's values.
pub mod Keys
pub mod Atoms
