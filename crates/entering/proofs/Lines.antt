-- The lines of a query, by the value that holds it, and those that are left, one by one.
use mathlib.Core.Path.{◌≡◌, ap, ◌∙◌}
use mathlib.Core.Bool.{cond}
use mathlib.Core.List.{List, [], ◌∷◌, ◌++◌, map}
use Prim.Native.Nat.{ℕ, ◌+◌, ◌-◌, ◌≤◌, ◌<◌}
use native.Mathlib.Numerals.{add-one}
use lib.ListN.{length, get_or, take, replicate, length-map, get_or-append}
use Rattle.theory.specs.Query.{Query}
use Rattle.theory.proofs.Tuples.{get_d_map, get_d_mem}
use Rattle.model.specs.Limits.{most_lines, most_columns}
use Rattle.model.specs.Value.{pad, unused_line, line_value, query_value}
use Rattle.model.specs.declared.Line.{Line}
use Rattle.model.specs.declared.Query.{Query as QueryValue}
use Rattle.words.specs.Bits.{is_set}
use Rattle.entering.specs.Agree.{line_at}
use Rattle.entering.specs.Left.{pick}
use Rattle.entering.specs.Laid.{HoldsQuery, Laid}
use Rattle.entering.specs.Showing.{Small, SmallLine}
use Rattle.entering.proofs.Left.{pick_more}

module _ {q : QueryValue} {Q : Query} (held : HoldsQuery q Q) where
  pub held_count : q.count ≡ length Q
  unfolding query_value
  held_count = ap (λ (x : QueryValue). x.count) held.is

  -- the line at a place
  pub held_line : (i : ℕ) (d : Line) → i < length Q → get_or q.lines i d ≡ line_value (line_at Q i)
  unfolding query_value pad line_at
  held_line i d h =
      let l = map line_value Q in
      ap (λ (x : QueryValue). get_or x.lines i d) held.is
      ∙ get_or-append l (replicate (most_lines - length l) unused_line) d i (rw (length-map Q line_value) h)
      ∙ get_d_map line_value Q i (record { table = 0; columns = [] }) d h

-- a line is within the limit of columns
pub laid_few : {Q : Query} {rows : List ℕ} → Laid Q rows → (i : ℕ) → i < length Q
    → length (line_at Q i).columns ≤ most_columns
unfolding line_at
laid_few {Q} laid i h = laid.columns (line_at Q i) (get_d_mem Q i (record { table = 0; columns = [] }) h)

pub small_line : {Q : Query} → Small Q → (i : ℕ) → i < length Q → SmallLine (line_at Q i)
unfolding line_at
small_line {Q} small i h n = small n (line_at Q i) (get_d_mem Q i (record { table = 0; columns = [] }) h)

-- one line more
pub left_more : (w : ℕ) (Q : Query) (i : ℕ) → i < length Q
    → pick (is_set w) (take (i + 1) Q) ≡ pick (is_set w) (take i Q) ++ cond (is_set w i) (line_at Q i ∷ []) []
unfolding line_at
left_more w Q i h = ap (λ (k : ℕ). pick (is_set w) (take k Q)) (add-one i) ∙ pick_more (record { table = 0; columns = [] }) (is_set w) Q i h
