-- What a reader must believe, a file for each section of document 01, and `Apart` for request 1 of document 02; `Executable` holds
-- the same notions as tests and functions, each proved to be its relation.
pub mod Query
pub mod Archive
pub mod Reduce
pub mod Show
pub mod Cover
pub mod Count
pub mod Apart
pub mod Executable
pub mod Printed
