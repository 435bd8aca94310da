-- The laws of the definitions in specs/, and of what the loops keep.
pub mod Lines
pub mod Names
pub mod Numerals
pub mod Parts
pub mod Cuts
pub mod NextLines
pub mod PartsFrom
-- What is printed is read back, and what is read was printed.
pub mod Each
pub mod Decimals
pub mod PartsJoined
pub mod Joined
