-- The mode `rules`.
pub mod RulesPage
pub mod Sizes
pub mod Writing
