-- The blocks that a pass over rows takes, and a spare one.
pub mod Taken
pub mod Spare
-- Rows by their cells, and the lines that they are made of.
pub mod TermMarks
pub mod RowCells
pub mod LineColumns
pub mod FrozenCells
-- A view beside a row.
pub mod ViewBeside
pub mod MatchedColumns
pub mod MarkedCells
