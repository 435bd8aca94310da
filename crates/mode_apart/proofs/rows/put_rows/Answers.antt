use Rattle.std.proofs.Common.{◌≡◌, ℕ, ◌++◌, length, refl, ap, ◌∙◌, length-append, arith, rules}
use Rattle.std.specs.Slice.Iter.{chunks_exact_rest, chunks_exact_size}
use Rattle.text.specs.Names.{bytes}
use Rattle.freezing.specs.Cells.{row_cells}
use Rattle.mode_apart.proofs.Written.{reached_none, reached_row, reached_more, reached_all}
use Rattle.mode_apart.proofs.rows.put_rows.Goals as goal
use Rattle.mode_apart.proofs.rows.put_rows.Goals.{In-Some}

pub loop-row-init : goal.loop-row-init
loop-row-init c =
    let it = c.into_iter-row-iterator.result in
    let rest : chunks_exact_rest it ≡ c.args.cells.now = search rules in
    let size : chunks_exact_size it ≡ row_cells = search rules in
    (omega arith, tt, size, rw rest c.requires.0, refl, λ xs h. rw rest (reached_none _ _ h))

-- the row is the next nine cells
cut : (c : In-Some) → chunks_exact_rest c.loop-row.row-iterator ≡ c.in-Some.row.now ++ chunks_exact_rest c.next.new.self
cut c = c.in-Some.ensures.steps.1.0

nine : (c : In-Some) → length c.in-Some.row.now ≡ row_cells
nine c = c.in-Some.ensures.steps.1.1 ∙ c.loop-row.invariant.2

pub put_row-to-requires : goal.put_row-to-requires
put_row-to-requires c =
    let here = (goal.at.put_row-to-requires c).In-Some in
    let inv = c.loop-row.invariant in (
      omega arith,
      omega (arith, inv.3, nine here, ap length (cut here), length-append {A = ℕ}),
      reached_row (inv.5 _ c.requires.1.1) _ _ (cut here) (nine here),
    )

pub loop-row-preserved : goal.loop-row-preserved
unfolding bytes
loop-row-preserved c =
    let here = (goal.at.loop-row-preserved c).In-Some in
    let inv = c.loop-row.invariant in
    let same = c.in-Some.ensures.steps.0 in
    let w = c.put_row-to.ensures in (
      omega (arith, same, inv.2),
      tt,
      same ∙ inv.2,
      omega (arith, inv.3, w.upper_bound.0, w.upper_bound.1, nine here, ap length (cut here), length-append {A = ℕ}),
      w.upper_bound.1 ∙ inv.4,
      λ xs h. reached_more (inv.5 xs h) _ _ (cut here) (nine here) w.row_put,
    )

pub returns : goal.returns
returns c =
    let inv = c.loop-row.invariant in
    let none = c.in-None.ensures.steps.1.0 in
    λ xs h. reached_all (inv.5 xs h) (omega (arith, none, inv.2))
