-- The notions of the files beside this one as tests and functions, which the contracts cite and the checker computes. Each
-- is proved to be its relation (`proofs/`, the file of the same name).
pub mod Test
pub mod Reduce
pub mod Show
pub mod Cover
pub mod Label
