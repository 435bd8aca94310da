pub mod Reply
pub mod Session
pub mod Opening
pub mod Deciding
