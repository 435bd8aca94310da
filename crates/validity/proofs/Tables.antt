-- The columns of the tables.
use mathlib.Core.Path.{◌≡◌, refl, ap, ◌∙◌}
use mathlib.Core.Logic.{◌↔◌}
use mathlib.Core.List.{List}
use Prim.Native.Nat.{ℕ, ◌≤◌}
use lib.ListN.{length}
use Rattle.theory.proofs.Tuples.{map_self}
use Rattle.model.specs.Limits.{most_tables, most_columns}
use Rattle.model.specs.Value.{pad, tables_value}
use Rattle.model.specs.declared.Tables.{Tables}
use Rattle.model.proofs.Limits.{up_to_iff}
use Rattle.validity.specs.Parts.{ValueOf, HoldsList, WidthPlace, TablesOf}
use Rattle.policy_text.specs.WellFormed.{GoodWidth}
use Rattle.validity.proofs.Held.{Checked, checked_held, held_checked}

pub width_iff : (w : ℕ) → ValueOf GoodWidth (λ w. w) w ↔ ((1 ≤ w) × (w ≤ most_columns))
width_iff w = (
  λ h. (up_to_iff most_columns w).0 (rw h.is h.good),
  λ k. record { thing = w; good = (up_to_iff most_columns w).1 k; is = refl },
)

-- ---- the columns and their count make the value of the tables

module _ (t : Tables) where
  tables_held : ((widths : List ℕ) × TablesOf widths t) → HoldsList most_tables GoodWidth (λ w. w) 0 t.count t.columns
  unfolding tables_value
  tables_held r =
      record {
        things = r.0;
        listed = r.1.listed;
        count = ap (λ (s : Tables). s.count) r.1.is;
        is = ap (λ (s : Tables). s.columns) r.1.is ∙ rw (map_self (λ w. w) r.0 (λ w m. refl));
      }

  held_tables : HoldsList most_tables GoodWidth (λ w. w) 0 t.count t.columns → (widths : List ℕ) × TablesOf widths t
  unfolding tables_value
  held_tables h =
      let columns = h.is ∙ ap (pad most_tables 0) (map_self (λ w. w) h.things (λ w m. refl)) in
      (h.things, record { listed = h.listed; is = λ i. record { count = h.count i; columns = columns i } })

  pub tables_checked : ((widths : List ℕ) × TablesOf widths t) → Checked most_tables WidthPlace 0 t.count t.columns
  tables_checked r = held_checked GoodWidth (λ w. w) 0 most_tables t.count t.columns (tables_held r)

  pub checked_tables : length t.columns ≡ most_tables → Checked most_tables WidthPlace 0 t.count t.columns
      → (widths : List ℕ) × TablesOf widths t
  checked_tables long c = held_tables (checked_held GoodWidth (λ w. w) 0 most_tables t.count t.columns long c)
