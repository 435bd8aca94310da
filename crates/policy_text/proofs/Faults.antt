-- Which lines are taken: no check turns a line back exactly when it is the next in turn, within the limits and good.
use mathlib.Core.Path.{◌≡◌, refl}
use mathlib.Core.Logic.{◌↔◌}
use mathlib.Core.Bool.{Bool, true, false, cond, not, ◌&&◌}
use mathlib.Core.Option.{Option, none, some}
use mathlib.Core.List.{List, []}
use Prim.Native.Nat.{ℕ, zero, suc, ◌≤◌}
use native.Mathlib.Omega.{arith}
use lib.Dec.{T, eqb, ltb, ltb→lt, nltb→le, T_not, not_T}
use lib.ListN.{length}
use mir.Facts.{eqb_yes, yes_eqb, T_not-not}
use Rattle.theory.specs.Query.{Line, ◌∈◌}
use Rattle.theory.specs.Executable.Test.{all, any}
use Rattle.theory.proofs.Executable.Test.{and_iff, all_iff, any_iff}
use Rattle.model.specs.Fields.{Numbered}
use Rattle.model.specs.Limits.{most_tables, most_columns, most_views, most_partitions, up_to, line_within}
use Rattle.model.specs.Checks.{known, wide, clashing, first_fault}
use Rattle.policy_text.specs.Text.{table_fault, view_fault, partition_fault, entered, faulty, unless, entry}
use Rattle.policy_text.specs.WellFormed.{ascend, GoodWidth, GoodView, GoodPartition}
use Rattle.policy_text.specs.Declared.{Declared}
use Rattle.model.proofs.Limits.{no_fault, up_to_iff, checked_fits, fits_checked, clear_alone}

-- a line that is taken behind that many lines of its block
pub record Taken {X : Type 0} (most : ℕ) (Good : X → Type 0) (before : ℕ) (e : Numbered X) : Type 0 where
  pub turn : e.number ≡ suc before
  pub limit : e.number ≤ most
  pub good : Good e.value

-- ---- one check before others

no_fault_from : (a : Bool) (n rest : ℕ) → T (not a) → rest ≡ 0 → cond a n rest ≡ 0
no_fault_from true n rest h e = absurd h
no_fault_from false n rest h e = e

-- a check that is broken where a test fails
passed : (a : Bool) (n rest : ℕ) → cond (not a) (suc n) rest ≡ 0 → T a × (rest ≡ 0)
passed a n rest e = let k = no_fault (not a) n rest e in (T_not-not a k.0, k.1)

passed_from : (a : Bool) (n rest : ℕ) → T a → rest ≡ 0 → cond (not a) n rest ≡ 0
passed_from true n rest h e = e
passed_from false n rest h e = absurd h

-- ---- the checks of the three blocks

-- a taken line's own number is within its limits
taken_within : {X : Type 0} (most : ℕ) (Good : X → Type 0) (before : ℕ) (e : Numbered X)
    → Taken most Good before e → T (up_to most e.number)
taken_within most Good before e t = (up_to_iff most e.number).1 (omega arith, t.limit)

pub table_taken : (d : Declared) (e : Numbered ℕ)
    → (table_fault d e ≡ 0) ↔ Taken most_tables GoodWidth (length d.widths) e
unfolding table_fault first_fault
table_taken d e = (
  λ h. let a = passed (up_to most_tables e.number && up_to most_columns e.value) 1 _ h in
      let b = passed (eqb e.number (suc (length d.widths))) 2 _ a.1 in
      let c = (and_iff (up_to most_tables e.number) _).0 a.0 in
      record { turn = eqb_yes b.0; limit = ((up_to_iff most_tables e.number).0 c.0).1; good = c.1 },
  λ t. passed_from (up_to most_tables e.number && up_to most_columns e.value) 2 _
      ((and_iff (up_to most_tables e.number) _).1 (taken_within _ _ _ e t, t.good))
      (passed_from (eqb e.number (suc (length d.widths))) 3 0 (yes_eqb t.turn) refl),
)

pub view_taken : (d : Declared) (e : Numbered Line)
    → (view_fault d e ≡ 0) ↔ Taken most_views (GoodView d.widths) (length d.views) e
unfolding view_fault first_fault
view_taken d e = (
  λ h. let a = passed (up_to most_views e.number && line_within e.value) 1 _ h in
      let b = passed (eqb e.number (suc (length d.views))) 2 _ a.1 in
      let c = passed (known d.widths e.value) 3 _ b.1 in
      let f = passed (wide d.widths e.value) 4 _ c.1 in
      let g = no_fault (clashing [] e.value) 5 _ f.1 in
      let k = (and_iff (up_to most_views e.number) _).0 a.0 in
      record {
        turn = eqb_yes b.0;
        limit = ((up_to_iff most_views e.number).0 k.0).1;
        good = record {
          within = k.1;
          fits = checked_fits d.widths e.value k.1 c.0 f.0;
          clear = (clear_alone e.value).0 g.0;
        };
      },
  λ t.
      let (c, f) = fits_checked d.widths e.value t.good.fits in
      passed_from (up_to most_views e.number && line_within e.value) 2 _
      ((and_iff (up_to most_views e.number) _).1 (taken_within _ _ _ e t, t.good.within))
      (passed_from (eqb e.number (suc (length d.views))) 3 _ (yes_eqb t.turn)
      (passed_from (known d.widths e.value) 4 _ c
      (passed_from (wide d.widths e.value) 5 _ f
      (no_fault_from (clashing [] e.value) 6 0 ((clear_alone e.value).1 t.good.clear) refl)))),
)

-- none is past the most
none_past : (most : ℕ) (vs : List ℕ) → T (not (any (ltb most) vs)) ↔ ((v : ℕ) → v ∈ vs → v ≤ most)
none_past most vs = (
  λ h v i. nltb→le most v (not_T (ltb most v) (λ p. T_not (any (ltb most) vs) h ((any_iff (ltb most) vs).1 (v, i, p)))),
  λ f. not_T (any (ltb most) vs) (λ h. let (v, i, p) = (any_iff (ltb most) vs).0 h in omega (arith, ltb→lt most v p, f v i)),
)

pub partition_taken : (d : Declared) (e : Numbered (List ℕ))
    → (partition_fault d e ≡ 0) ↔ Taken most_partitions (GoodPartition (length d.views)) (length d.partitions) e
unfolding partition_fault first_fault
partition_taken d e = (
  λ h. let a = passed (up_to most_partitions e.number && all (up_to most_views) e.value) 1 _ h in
      let b = passed (eqb e.number (suc (length d.partitions)) && ascend e.value) 2 _ a.1 in
      let c = no_fault (any (ltb (length d.views)) e.value) 3 _ b.1 in
      let k = (and_iff (up_to most_partitions e.number) _).0 a.0 in
      let f = (and_iff (eqb e.number (suc (length d.partitions))) _).0 b.0 in
      record {
        turn = eqb_yes f.0;
        limit = ((up_to_iff most_partitions e.number).0 k.0).1;
        good = record {
          within = (all_iff (up_to most_views) e.value).0 k.1;
          ascending = f.1;
          declared = (none_past (length d.views) e.value).0 c.0;
        };
      },
  λ t. passed_from (up_to most_partitions e.number && all (up_to most_views) e.value) 2 _
      ((and_iff (up_to most_partitions e.number) _).1 (taken_within _ _ _ e t, (all_iff (up_to most_views) e.value).1 t.good.within))
      (passed_from (eqb e.number (suc (length d.partitions)) && ascend e.value) 3 _
      ((and_iff (eqb e.number (suc (length d.partitions))) _).1 (yes_eqb t.turn, t.good.ascending))
      (no_fault_from (any (ltb (length d.views)) e.value) 4 0
      ((none_past (length d.views) e.value).1 t.good.declared) refl)),
)

-- ---- what a line declares

pub faulty≢entered : {n : ℕ} {d : Declared} → faulty n ≡ entered d → ⊥
faulty≢entered e = let z : ◌≡◌ {A = ℕ} 0 1 = cc in omega arith

only_zero : (n : ℕ) (c d : Declared) → unless n c ≡ entered d → (n ≡ 0) × (c ≡ d)
unfolding unless
only_zero zero c d h = (refl, cc)
only_zero (suc n) c d h = absurd (faulty≢entered h)

module _ {X : Type 0} (fault : Numbered X → ℕ) (add : X → Declared) where
  -- a line that declares something can be read, and no check turns it back
  pub entry_only_taken : (o : Option (Numbered X)) (d : Declared) → entry o fault add ≡ entered d
      → (e : Numbered X) × (o ≡ some e) × (fault e ≡ 0) × (add e.value ≡ d)
  unfolding entry
  entry_only_taken none d h = absurd (faulty≢entered h)
  entry_only_taken (some e) d h = let k = only_zero (fault e) (add e.value) d h in (e, refl, k.0, k.1)
