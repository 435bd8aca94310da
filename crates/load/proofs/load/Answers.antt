-- The length, then the names line, then the blocks.
use mathlib.Core.Path.{ap, ◌∙◌}
use mathlib.Core.List.{List}
use native.Mathlib.Omega.{arith}
use Prim.Native.Nat.{ℕ, ◌≤◌}
use lib.ListN.{length, length-take, length-drop}
use Rattle.text.specs.Names.{table_columns}
use Rattle.text.specs.Cursors.{AfterNames, NextLine}
use Rattle.text.proofs.NextLines.{behind_names, names_within}
use Rattle.load.specs.Value.{loading_value}
use Rattle.load.proofs.Start.{too_long, misnamed, well_named}
use Rattle.load.proofs.load.Goals as goal
use Rattle.load.proofs.load.Goals.{After-after_names-start, Else-start-eq0}

-- ---- the names line

abbrev text : After-after_names-start → List ℕ
text c = c.args.text.now

after : (c : After-after_names-start) → AfterNames table_columns (text c) c.after_names-start.result
unfolding table_columns
after c = c.after_names-start.ensures

abbrev of-names : Else-start-eq0 → After-after_names-start
of-names c = (goal.at.Else-start-eq0 c).After-after_names-start

behind : (c : Else-start-eq0) → NextLine (text (of-names c)) 1 (of-names c).after_names-start.result
behind c = behind_names table_columns (text (of-names c)) (after (of-names c)) c.if-start-eq0.false

within : (c : Else-start-eq0) → (of-names c).after_names-start.result.at ≤ length (text (of-names c))
within c = names_within table_columns (text (of-names c)) (after (of-names c)) c.if-start-eq0.false

-- ---- the needs

pub returns-then-text-gt-MOST_BYTES : goal.returns-then-text-gt-MOST_BYTES
returns-then-text-gt-MOST_BYTES c = c.refused.ensures ∙ ap loading_value (too_long _ c.if-text-gt-MOST_BYTES.true)

pub returns-then-start-eq0 : goal.returns-then-start-eq0
returns-then-start-eq0 c =
    c.refused-then-start-eq0.ensures ∙ ap loading_value (misnamed (text (goal.at.returns-then-start-eq0 c).After-after_names-start) c.if-text-gt-MOST_BYTES.false (after (goal.at.returns-then-start-eq0 c).After-after_names-start) c.if-start-eq0.true)

pub slice_bounds-load_lines-count : goal.slice_bounds-load_lines-count
slice_bounds-load_lines-count c = within c

pub slice_bounds-load_lines-start : goal.slice_bounds-load_lines-start
slice_bounds-load_lines-start c = within c

pub load_lines-requires : goal.load_lines-requires
load_lines-requires c = (
  simp (length-take, length-drop) (omega (arith, (of-names (goal.at.load_lines-requires c).Else-start-eq0).if-text-gt-MOST_BYTES.false)),
  omega (arith, (behind (goal.at.load_lines-requires c).Else-start-eq0).number),
)

pub returns : goal.returns
returns c =
    let d = of-names (goal.at.returns c).Else-start-eq0 in
    c.load_lines.ensures ∙ ap loading_value (well_named (text d) d.if-text-gt-MOST_BYTES.false (after d) c.if-start-eq0.false)
