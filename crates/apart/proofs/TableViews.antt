-- Lines and rows of the tables of a prepared policy: their limits, a view beside a row of its table, and the views that a partition grants.
use mathlib.Core.Path.{◌≡◌, sym, ap, subst, ◌∙◌}
use mathlib.Core.Logic.{◌↔◌}
use mathlib.Core.List.{List}
use mathlib.Core.Option.{some, some-injective}
use Prim.Native.Nat.{ℕ, ◌+◌, ◌-◌, ◌≤◌, ◌<◌}
use native.Mathlib.Omega.{arith}
use lib.ListN.{length, get_or, get_elem?}
use Rattle.theory.specs.Query.{Tuple, Line, Fits, ◌∈◌}
use Rattle.theory.specs.Archive.{Row}
use Rattle.theory.proofs.Lists.{at_place, place_below}
use Rattle.words.specs.Bits.{bit}
use Rattle.model.specs.Limits.{most_tables, most_columns, most_views, most_partitions}
use Rattle.model.specs.declared.Tables.{Tables}
use Rattle.model.proofs.Limits.{up_to_iff}
use Rattle.model.proofs.Values.{width_is}
use Rattle.policy_text.specs.Declared.{Declared}
use Rattle.policy_text.specs.WellFormed.{GoodWidth, WellFormed}
use Rattle.policy_text.proofs.Grants.{grants_bit}
use Rattle.covering.specs.Prepared.{grant_word}
use Rattle.labelling.specs.Posed.{Ready}
use Rattle.labelling.specs.Settled.{granted, Known}
use Rattle.labelling.proofs.Partitions.{granted_iff, known}
use Rattle.freezing.specs.Cells.{cells_of}
use Rattle.freezing.specs.Rows.{Beside}

module _ {X : Type 0} {d : Declared} {A : Tuple X} (good : WellFormed d) (fits : Fits d.widths A) where
  pub fits_table : A.table ≤ most_tables
  fits_table = omega (arith, fits.last, good.tables.few)

  pub fits_narrow : length A.columns ≤ most_columns
  fits_narrow = ((up_to_iff most_columns _).0 (width_is GoodWidth d.widths good.tables.each A fits)).1

module _ {d : Declared} {t : Tables} {r : List ℕ} (ready : Ready d t r) where
  -- a view of the row's table is as wide as the row
  pub view_beside : {odd : Row} {cells : List ℕ} → Fits d.widths odd → cells ≡ cells_of odd → (k : ℕ) (v : Line)
      → get_elem? d.views k ≡ some v → v.table ≡ odd.table → Beside r k v cells odd
  view_beside fits are k v at table =
      let view = (ready.good.views.each v (at_place d.views k at)).fits in
      record {
        view = ready.laid.row k v at;
        columns = fits_narrow ready.good view;
        are = are;
        table = table;
        width = view.width ∙ ap (λ (n : ℕ). get_or d.widths (n - 1) 0) table ∙ sym fits.width;
      }

  module _ (i : ℕ) (ns : List ℕ) (at : get_elem? d.partitions i ≡ some ns) where
    pub partition_low : i < most_partitions
    partition_low = omega (arith, place_below d.partitions i at, ready.good.partitions.few)

    pub partition_known : Known d.views ns
    partition_known = known d ready.good i ns at

    -- bit i of a view's word says whether the partition at place i lists its number
    pub listed_iff : (k : ℕ) → k < most_views → (bit (grant_word r k) i ≡ 1) ↔ (k + 1 ∈ ns)
    listed_iff k h =
        let word = ready.grant k h in
        let g = grants_bit d.partitions (k + 1) i in (
          λ e.
              let (ms, there, m) = g.0 (ap (λ (x : ℕ). bit x i) (sym word) ∙ e) in
              subst (λ (l : List ℕ). k + 1 ∈ l) (some-injective ms ns (sym there ∙ at)) m,
          λ m. ap (λ (x : ℕ). bit x i) word ∙ g.1 (ns, at, m),
        )

    pub listed_granted : (k : ℕ) {v : Line} → get_elem? d.views k ≡ some v → k + 1 ∈ ns → v ∈ granted d.views ns
    listed_granted k {v} there m =
        let back : k + 1 - 1 ≡ k = omega arith in
        (granted_iff d.views ns partition_known v).0
        (record { number = k + 1; listed = m; from_one = omega arith; view = rw back there })
