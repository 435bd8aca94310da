-- The bytes of the names line, and the byte that ends it.
use mathlib.Core.Path.{sym, ◌∙◌}
use native.Mathlib.Omega.{arith}
use Rattle.words.proofs.Answers.{true_holds}
use Rattle.text.specs.Names.{table_terms}
use Rattle.text.proofs.Names.{same_bytes_iff}
use Rattle.text.proofs.Parts.{to_end}
use Rattle.scan.proofs.Places.{names_there}
use Rattle.scan.proofs.names_at.Goals as goal

pub returns : goal.returns
unfolding table_terms
returns c is =
    let at = c.args.at in
    let same = (same_bytes_iff _ table_terms).0 (true_holds (sym c.same.ensures ∙ is)) in
    names_there at (omega arith) (rw (to_end at c.args.text.now) at same) c.if-text-at-ne10.false
