-- Demand 2, of what `labels` gives.
use Rattle.std.specs.Prelude.{◌≡◌, ◌↔◌, ℕ, ◌+◌, ◌-◌, ◌%◌, ◌^◌, ◌≤◌, ◌<◌, length}
use mathlib.Core.List.{List, Permᴰ}
use Rattle.std.proofs.Math.Option.{some}
use Rattle.std.proofs.Math.ListN.{get_elem?}
use Rattle.theory.specs.Query.{Line, Query, Pointwise}
use Rattle.theory.specs.Archive.{Archive, Answer}
use Rattle.theory.specs.Reduce.{Reduced, ReducesTo}
use Rattle.theory.specs.Cover.{Rewrites}
use Rattle.theory.specs.Show.{Shown}
use Rattle.words.specs.Bits.{bit, half_bits}
use Rattle.word_list.specs.Order.{Ascends}
use Rattle.policy_text.specs.Declared.{Declared}

-- A word is the label of a line: "the low 32 bits hold the table number and the high 32 bits the views, view n at bit 31 + n",
-- a view "exactly when that line … can be rewritten over that one view with the same answers on every archive"
pub record LabelOf (d : Declared) (A : Line) (w : ℕ) : Type 0 where
  pub table : w % 2 ^ half_bits ≡ A.table
  pub views : (n : ℕ) → 1 ≤ n
      → (bit w (31 + n) ≡ 1) ↔ ((v : Line) × (get_elem? d.views (n - 1) ≡ some v) × Rewrites d.widths v A)
  pub no_other : w < 2 ^ (half_bits + length d.views)

-- Words are the labels of a reduced query by line: one for each line, in order, once "shared variables are shown"
pub record LabelsOfForm (d : Declared) (R : Query) (ws : List ℕ) : Type 0 where
  pub shown : Query
  pub shows : Shown R shown
  pub each : Pointwise (LabelOf d) shown ws

-- Words are the labels of a query: whichever lines are taken out ("The collection of labels, repeats counted, is fixed"), the labels of
-- the lines left, "ascending as 64-bit numbers, equal ones repeated" (document 02, request 2). "The reduced query answers as the
-- original does, and no line of it could still go."
pub record LabelsOf (d : Declared) (Q : Query) (ws : List ℕ) : Type 0 where
  pub form : Query
  pub reduces : ReducesTo Q form
  pub any_form : (R : Query) → ReducesTo Q R → (lined : List ℕ) × LabelsOfForm d R lined × Permᴰ ws lined
  pub ascends : Ascends ws
  pub answers : (R : Query) → ReducesTo Q R → (D : Archive) (s : ℕ → ℕ) → (Answer Q D s) ↔ (Answer R D s)
  pub none_goes : (R : Query) → ReducesTo Q R → Reduced R
