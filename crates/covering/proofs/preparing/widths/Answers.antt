-- `widths`: the part from the columns of the tables on.
use native.Mathlib.Nat.{le_of_eq}
use lib.Seq.{take_all}
use lib.ListN.{drop, length-drop}
use Rattle.covering.specs.Prepared.{width_words}
use Rattle.covering.proofs.preparing.widths.Goals as goal

pub returns : goal.returns
returns c = let r = c.args.ready.now in take_all _ (drop width_words r) (le_of_eq (length-drop width_words r))
