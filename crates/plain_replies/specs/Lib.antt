-- A number for each word of a reply, the reply of each operation in numbers, and that nothing is lost.
pub mod Words
pub mod Replies
pub mod Told
