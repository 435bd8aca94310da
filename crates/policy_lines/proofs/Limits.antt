-- The numbers that a line gives are within their limits where it is taken.
use mathlib.Core.Path.{◌≡◌, refl, sym, ap, ◌∙◌}
use mathlib.Core.Bool.{Bool, true, false, true≢false, false≢true, cond, ◌&&◌}
use mathlib.Core.List.{List}
use mathlib.Core.Option.{Option, none, some}
use Prim.Native.Nat.{ℕ, ◌≤◌}
use lib.Dec.{leb}
use borrow.Author.Tests.{leb-true}
use Rattle.theory.specs.Query.{Line}
use Rattle.theory.specs.Executable.Test.{all}
use Rattle.words.proofs.Answers.{both_true}
use Rattle.model.specs.Fields.{Numbered}
use Rattle.model.specs.Limits.{most_tables, most_columns, most_views, most_partitions, up_to, term_within, line_within}
use Rattle.model.specs.Parsed.{good_value}
use Rattle.policy_lines.specs.Value.{no_table, table_value, no_view, view_value, no_partition, partition_value}
use Rattle.policy_lines.specs.declared.TableLine.{TableLine}
use Rattle.policy_lines.specs.declared.ViewLine.{ViewLine}
use Rattle.policy_lines.specs.declared.PartitionLine.{PartitionLine}

up_to_bounds : (most n : ℕ) → up_to most n ≡ true → (1 ≤ n) × (n ≤ most)
unfolding up_to
up_to_bounds most n e = let w = both_true (leb 1 n) (leb n most) e in (leb-true 1 n w.0, leb-true n most w.1)

within_bounds : {k : ℕ} (most n : ℕ) → k ≡ n → up_to most n ≡ true → (1 ≤ k) × (k ≤ most)
within_bounds most n e f = let w = up_to_bounds most n f in (rw e w.0, rw e w.1)

-- of two answers, the one that is not outside
taken : {R : Type 0} (outside : R → Bool) {t good bad : R} (b : Bool) → t ≡ cond b good bad → outside bad ≡ true → outside t ≡ false
    → (b ≡ true) × (t ≡ good)
taken outside true e f g = (refl, e)
taken outside false e f g = absurd (true≢false (sym f ∙ ap outside (sym e) ∙ g))

pub table_limits : (o : Option (Numbered ℕ)) (t : TableLine) → t ≡ table_value o → t.ok ≡ true → t.outside ≡ false
    → (1 ≤ t.number) × (t.number ≤ most_tables)
unfolding table_value no_table
table_limits none t e ok f = absurd (false≢true (ap (λ (x : TableLine). x.ok) (sym e) ∙ ok))
table_limits (some n) t e ok f =
    let w = taken (λ (x : TableLine). x.outside) (up_to most_tables n.number && up_to most_columns n.value) e refl f in
    within_bounds most_tables n.number (ap (λ (x : TableLine). x.number) w.1)
    (both_true (up_to most_tables n.number) (up_to most_columns n.value) w.0).0

-- e holds a line whose numbers are within their limits
record ViewTaken (e : ViewLine) : Type 0 where
  line : Numbered Line
  number : e.number ≡ line.number
  table : e.view.table ≡ line.value.table
  numbered : up_to most_views line.number ≡ true
  within : line_within line.value ≡ true

view_taken : (o : Option (Numbered Line)) (e : ViewLine) → e ≡ view_value o → e.ok ≡ true → e.outside ≡ false → ViewTaken e
unfolding view_value no_view good_value
view_taken none e p ok f = absurd (false≢true (ap (λ (x : ViewLine). x.ok) (sym p) ∙ ok))
view_taken (some n) e p ok f =
    let w = taken (λ (x : ViewLine). x.outside) (up_to most_views n.number && line_within n.value) p refl f in
    let b = both_true (up_to most_views n.number) (line_within n.value) w.0 in
    record {
      line = n;
      number = ap (λ (x : ViewLine). x.number) w.1;
      table = ap (λ (x : ViewLine). x.view.table) w.1;
      numbered = b.0;
      within = b.1;
    }

pub view_limits : (o : Option (Numbered Line)) (e : ViewLine) → e ≡ view_value o → e.ok ≡ true → e.outside ≡ false
    → (1 ≤ e.number) × (e.number ≤ most_views)
view_limits o e p ok f = let w = view_taken o e p ok f in within_bounds most_views w.line.number w.number w.numbered

pub view_tabled : (o : Option (Numbered Line)) (e : ViewLine) → e ≡ view_value o → e.ok ≡ true → e.outside ≡ false
    → (1 ≤ e.view.table) × (e.view.table ≤ most_tables)
unfolding line_within
view_tabled o e p ok f =
    let w = view_taken o e p ok f in
    let A = w.line.value in
    within_bounds most_tables A.table w.table (both_true (up_to most_tables A.table) (all term_within A.columns) w.within).0

pub partition_limits : (o : Option (Numbered (List ℕ))) (p : PartitionLine) → p ≡ partition_value o → p.ok ≡ true → p.outside ≡ false
    → (1 ≤ p.number) × (p.number ≤ most_partitions)
unfolding partition_value no_partition
partition_limits none p e ok f = absurd (false≢true (ap (λ (x : PartitionLine). x.ok) (sym e) ∙ ok))
partition_limits (some n) p e ok f =
    let w = taken (λ (x : PartitionLine). x.outside) (up_to most_partitions n.number && all (up_to most_views) n.value) e refl f in
    within_bounds most_partitions n.number (ap (λ (x : PartitionLine). x.number) w.1)
    (both_true (up_to most_partitions n.number) (all (up_to most_views) n.value) w.0).0
