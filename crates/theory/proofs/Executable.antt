-- Each executable definition of `specs/Executable` is its relation.
pub mod Test
pub mod Reduce
pub mod Show
pub mod Cover
pub mod Label
pub mod Words
