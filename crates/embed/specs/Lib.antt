-- The desk for programs in other languages: what each exported function says in numbers, and demand 3 of lists of calls.
pub mod Calls
pub mod About
pub mod Demanded
