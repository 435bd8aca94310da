-- General lemmas, named for what they are about.
pub mod Lists
pub mod Find
pub mod Pigeonhole
pub mod Taken
pub mod Tuples
pub mod Terms
-- The executable definitions are the relations.
pub mod Executable
-- The theorems, in the order of document 01: answers, reducing, showing, covering, labels, determining, counting.
pub mod Archive
pub mod Reduce
pub mod Endomorphism
pub mod Show
pub mod Cover
pub mod Match
pub mod Rewrite
pub mod Alike
pub mod Fixed
pub mod Determine
pub mod Label
pub mod Equivalent
pub mod Count
-- Document 01's example.
pub mod Printed
