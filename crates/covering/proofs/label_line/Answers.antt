use mathlib.Core.Path.{refl, sym, ap, subst, ◌∙◌}
use Prim.Native.Nat.{ℕ, ◌≤◌, ◌<◌}
use native.Mathlib.Nat.{le_refl}
use native.Mathlib.Omega.{arith}
use Rattle.words.specs.Sets.{Without}
use Rattle.words.proofs.Answers.{true_iff}
use Rattle.words.proofs.Bits.{bit_within}
use Rattle.words.proofs.ClearBits.{low_bits_below}
use Rattle.words.proofs.SetBits.{set_bit_below}
use Rattle.words.proofs.Marks.{Picked, picked_none, picked_more}
use Rattle.words.proofs.Unions.{union_none, union_more}
use Rattle.model.specs.Limits.{most_tables, most_columns, most_views}
use Rattle.model.specs.Value.{line_value}
use Rattle.covering.specs.Prepared.{table_word, table_width, free_word}
use Rattle.covering.proofs.Views.{Covering, answered, labelled, reached}
use Rattle.covering.proofs.label_line.Goals as goal
use Rattle.covering.proofs.label_line.Goals.{After-least-k, After-table_at-table, Then-covers, else-covers, then-covers}

pub table_at-table-requires : goal.table_at-table-requires
table_at-table-requires c = let (_, long, a) = c.requires.ready_len in omega (arith, long, a)

-- the line's table is one of the tables
last : (c : After-table_at-table) → c.table_at-table.result ≤ most_tables
last c = rw c.table_at-table.ensures c.requires.tabled.last

pub overflow_add-width : goal.overflow_add-width
overflow_add-width c = omega (arith, last c)

pub offset_bounds-ready-table : goal.offset_bounds-ready-table
offset_bounds-ready-table c = omega (arith, last c)

pub bounds-ready-table : goal.bounds-ready-table
bounds-ready-table c = omega (arith, last (goal.at.bounds-ready-table c).After-table_at-table)

-- a table has no more columns than there may be
narrow : (c : After-table_at-table)
    → table_width c.args.ready.now c.table_at-table.result ≤ most_columns
narrow c = rw c.table_at-table.ensures c.requires.tabled.columns

pub low_bits-every-requires : goal.low_bits-every-requires
low_bits-every-requires c = omega (arith, narrow (goal.at.low_bits-every-requires c).After-table_at-table)

pub overflow_add-left : goal.overflow_add-left
overflow_add-left c = omega (arith, last (goal.at.overflow_add-left c).After-table_at-table)

pub offset_bounds-ready-table-2 : goal.offset_bounds-ready-table-2
offset_bounds-ready-table-2 c = omega (arith, last (goal.at.offset_bounds-ready-table-2 c).After-table_at-table)

pub bounds-ready-table-2 : goal.bounds-ready-table-2
bounds-ready-table-2 c = omega (arith, last (goal.at.bounds-ready-table-2 c).After-table_at-table)

pub loop-left-init : goal.loop-left-init
unfolding line_value
loop-left-init c =
    let r = c.args.ready.now in
    let table = c.table_at-table.ensures in (
      rw table c.requires.tabled.views,
      omega arith,
      refl,
      c.low_bits-every.ensures,
      union_none _,
      λ vs A l.
          let mask = ap (table_word r) (table ∙ l.line.table) in
          subst (λ (m : ℕ). Picked (Covering vs A) (table_word r A.table) m 0) (sym mask) picked_none,
    )

pub least-k-requires : goal.least-k-requires
least-k-requires c = omega arith

-- a bit of the table's word is the place of a view
small : (c : After-least-k) → c.least-k.result < most_views
small c = bit_within most_views _ c.loop-left.invariant.0 c.least-k.ensures.set

pub overflow_add-k : goal.overflow_add-k
overflow_add-k c = omega (arith, small c)

pub offset_bounds-ready-k : goal.offset_bounds-ready-k
offset_bounds-ready-k c = omega (arith, small c)

pub bounds-ready-k : goal.bounds-ready-k
bounds-ready-k c = omega (arith, small (goal.at.bounds-ready-k c).After-least-k)

pub covers-requires : goal.covers-requires
covers-requires c =
    let (long, lines, a) = c.requires.ready_len in
    let (_, _, width, every, _, _) = c.loop-left.invariant in
    let k = small (goal.at.covers-requires c).After-least-k in (
      c.without-bound.ensures.below _ (rw every (low_bits_below _ _ (le_refl _))),
      rw width (narrow (goal.at.covers-requires c).After-table_at-table),
      omega (arith, k, long),
      omega (arith, lines, a),
    )

-- the place found, behind the test of covering
abbrev found : (c : Then-covers) → After-least-k
found c = (goal.at.Then-covers c).After-least-k

pub set_bit-word-requires : goal.set_bit-word-requires
set_bit-word-requires c = omega (arith, small (found c))

pub overflow_add-grants : goal.overflow_add-grants
overflow_add-grants c = omega (arith, small (found (goal.at.overflow_add-grants c).Then-covers))

pub offset_bounds-ready-k-then-covers : goal.offset_bounds-ready-k-then-covers
offset_bounds-ready-k-then-covers c = omega (arith, small (found (goal.at.offset_bounds-ready-k-then-covers c).Then-covers))

pub bounds-ready-k-then-covers : goal.bounds-ready-k-then-covers
bounds-ready-k-then-covers c = omega (arith, small (found (goal.at.bounds-ready-k-then-covers c).Then-covers))

pub drop_least-left-requires : goal.drop_least-left-requires
drop_least-left-requires c = omega arith

pub loop-left-smaller : goal.loop-left-smaller
loop-left-smaller c = c.drop_least-left.ensures.less

pub loop-left-preserved : goal.loop-left-preserved
unfolding line_value
loop-left-preserved c =
    let at = c.loop-left in
    let k = c.least-k in
    let (small-left, small_word, width, every, union, picked) = at.invariant in
    let answer = c.covers in
    let r = c.args.ready.now in
    let table = c.table_at-table.ensures in (
      omega (arith, c.drop_least-left.ensures.less),
      elim c.if-covers.branch [ then-covers w ↦ rw (w.word-is, w.set_bit-word.ensures) (set_bit_below most_views _ _ small_word (omega (arith, small (goal.at.loop-left-preserved c).After-least-k))) | else-covers w ↦ rw w.word-is small_word ],
      width,
      every,
      elim c.if-covers.branch [ then-covers w ↦ rw (w.word-is, w.grants-is, w.set_bit-word.ensures) (union_more _ k.result union) | else-covers w ↦ rw (w.word-is, w.grants-is) union ],
      λ vs A l.
          let w = picked vs A l in
          let wide = width ∙ ap (table_width r) (table ∙ l.line.table) in
          let outside = subst (λ (m : ℕ). Without m (free_word r k.result) c.without-bound.result) every c.without-bound.ensures in
          picked_more answer.result _ w k.ensures c.drop_least-left.ensures
          (true_iff (answered l _ _ wide k.result answer.result (w.some k.result k.ensures.set) outside answer.ensures))
          (elim c.if-covers.branch [ then-covers w ↦ rw (w.if-covers.true, w.word-is) w.set_bit-word.ensures | else-covers w ↦ rw w.if-covers.false w.word-is ]),
    )

pub join-requires : goal.join-requires
join-requires c = (omega (arith, last (goal.at.join-requires c).After-table_at-table), c.loop-left.invariant.1)

pub returns : goal.returns
returns c = λ vs A l.
    let (_, small_word, _, _, union, picked) = c.loop-left.invariant in
    let r = c.args.ready.now in
    let word = c.loop-left.word in
    let done = subst (λ (m : ℕ). Picked (Covering vs A) (table_word r A.table) m word) c.loop-left-test.false (picked vs A l) in
    (c.join.ensures ∙ labelled l done _ c.table_at-table.ensures small_word, reached l done union)
