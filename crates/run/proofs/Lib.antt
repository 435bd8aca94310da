-- The output line by line, the bytes written, and what demand 3 says of them.
pub mod Line
pub mod Scans
pub mod Progress
pub mod Written
pub mod Program
