-- Laws of bits and words, over any width.
pub mod Bits
pub mod Parts
pub mod Masks
pub mod SetBits
pub mod ClearBits
pub mod WithoutBits
pub mod Lowest
pub mod Tests
pub mod Counts
pub mod TestBits
pub mod Unions
-- Words built bit by bit by tests, and what a test's answer says.
pub mod Answers
pub mod Marks
