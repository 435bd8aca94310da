-- Lines and the values that hold them: the same terms stand in the same columns, and the columns behind are unused.
use mathlib.Core.Path.{◌≡◌, ◌∙◌}
use mathlib.Core.List.{map}
use Prim.Native.Nat.{ℕ, ◌≤◌, ◌<◌}
use lib.Dec.{T}
use lib.ListN.{length, get_or, length-map, get_or-eq_default}
use Rattle.theory.specs.Query.{constant, shown, hidden}
use Rattle.theory.specs.Query.{Term as TheTerm, Line as TheLine}
use Rattle.theory.specs.Cover.{at}
use Rattle.theory.specs.Executable.Test.{kind, number}
use Rattle.theory.proofs.Tuples.{get_d_map}
use Rattle.model.specs.Limits.{most_columns}
use Rattle.model.specs.Value.{same_term, unused_term, term_value, line_value}
use Rattle.model.specs.Rows.{term_at}
use Rattle.model.proofs.Pad.{pad_get}
use Rattle.model.proofs.Terms.{terms_few}

-- no used term is the same as an unused one
pub same_unused : (t : TheTerm) → T (same_term (term_value t) unused_term) → ⊥
unfolding same_term term_value kind number unused_term
same_unused (constant c) h = h
same_unused (shown n) h = h
same_unused (hidden n) h = h

module _ (A : TheLine) (few : length A.columns ≤ most_columns) where
  padded : (p : ℕ) → term_at (line_value A) p ≡ get_or (map term_value A.columns) p unused_term
  unfolding term_at line_value
  padded p = rw (terms_few A.columns few) (pad_get most_columns unused_term (map term_value A.columns) p)

  pub used : (p : ℕ) → p < length A.columns → term_at (line_value A) p ≡ term_value (at A p)
  used p h = padded p ∙ get_d_map term_value A.columns p (constant 0) unused_term h

  pub unused : (p : ℕ) → length A.columns ≤ p → term_at (line_value A) p ≡ unused_term
  unused p h = padded p ∙ get_or-eq_default (map term_value A.columns) unused_term (simp length-map h)
