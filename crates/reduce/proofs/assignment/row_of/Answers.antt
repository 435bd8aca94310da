-- `row_of`: the candidates shifted by the line's place, those of `targets` alone.
use Rattle.reduce.proofs.Rows.{row_is}
use Rattle.reduce.proofs.assignment.row_of.Goals as goal

pub returns : goal.returns
returns c = row_is _ _ _
