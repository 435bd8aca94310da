-- The mode `labels`.
pub mod LabelLines
