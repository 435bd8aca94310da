use mathlib.Core.Path.{◌≡◌, ◌∙◌}
use mathlib.Core.List.{List}
use Prim.Native.Nat.{ℕ, ◌≤◌, ◌<◌}
use native.Mathlib.Omega.{arith}
use lib.ListN.{length, take}
use borrow.Author.Rules.{rules}
use Rattle.std.proofs.lemmas.List.{get_or-take, length-take-le}
use Rattle.model.specs.Limits.{most_lines}
use Rattle.model.specs.declared.Line.{Line}
use Rattle.model.proofs.LaidTerms.{rows_more}
use Rattle.entering.proofs.Lines.{held_count, held_line}
use Rattle.entering.proofs.LaidRows.{value_at, rows_all}
use Rattle.entering.proofs.laying.query_rows.Goals as goal

-- the lines of the query are as many as it counts
counted : (n : ℕ) (l : List Line) → n ≤ most_lines → length l ≡ most_lines → length (take n l) ≡ n
counted n l few long = length-take-le n l (omega arith)

pub lay_line-requires : goal.lay_line-requires
lay_line-requires c = let q = c.args.q in let n = counted q.count q.lines c.requires (search rules) in omega (arith, n, c.loop-i.invariant.0)

pub loop-i-preserved : goal.loop-i-preserved
loop-i-preserved c =
    let at = c.loop-i in
    let l = c.lay_line.ensures in
    let q = c.args.q in
    let n = counted q.count q.lines c.requires (search rules) in
    let room : at.i < q.count = omega (arith, n, c.loop-i-test.true) in (
      l.long ∙ at.invariant.0,
      λ Q held.
          rows_more (value_at Q) (at.invariant.1 Q held)
          (get_or-take q.count q.lines at.i _ room ∙ held_line held at.i _ (rw (held_count held) at room)) l.before l.row,
    )

pub returns : goal.returns
returns c = λ Q held. rows_all _ held (rw (← held_count held) (omega (arith, counted c.args.q.count c.args.q.lines c.requires (search rules)))) (c.loop-i.invariant.1 Q held)
