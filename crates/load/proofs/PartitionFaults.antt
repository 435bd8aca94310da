-- The checks of a partition's line in the order of the code's tests.
use mathlib.Core.Path.{◌≡◌, refl, sym, ap, ap₂, ◌∙◌}
use mathlib.Core.Bool.{Bool, true, false, cond, not, ◌&&◌, ◌||◌, or-false}
use mathlib.Core.Option.{Option, none, some}
use mathlib.Core.List.{List, [], ◌∷◌}
use Prim.Native.Nat.{ℕ, suc, ◌-◌, ◌≤◌, ◌<◌}
use native.Mathlib.Nat.{le_refl}
use native.Mathlib.Omega.{arith}
use lib.Dec.{eqb, ltb}
use lib.ListN.{length}
use borrow.Author.Tests.{ltb-true, lt-ltb, le-ltb}
use Rattle.words.proofs.Answers.{both_true}
use Rattle.theory.specs.Executable.Test.{all, any}
use Rattle.model.specs.Fields.{Numbered, partition_line}
use Rattle.model.specs.Limits.{up_to, most_views, most_partitions}
use Rattle.model.specs.Checks.{first_fault}
use Rattle.policy_text.specs.Text.{partition_fault, faulty, entered, enter, partitions as partition_block}
use Rattle.policy_text.specs.WellFormed.{ascend}
use Rattle.policy_text.specs.Declared.{Declared}
use Rattle.policy_lines.specs.Value.{partition_value, no_partition, view_list, last_after}
use Rattle.policy_lines.specs.declared.PartitionLine.{PartitionLine}
use Rattle.load.specs.Steps.{line_fault, more_partitions}
use Rattle.load.proofs.Lines.{Kind, Within, reading, within, malformed_fault, outside_fault, within_fault, in_turn, out_of_turn}
use Rattle.load.proofs.Lines.{taken, taken_entered, faulty_entered}

-- ---- the last of views that ascend is the largest

at_most_last : (v : ℕ) (vs : List ℕ) → ascend (v ∷ vs) ≡ true → v ≤ last_after v vs
unfolding ascend last_after
at_most_last v [] e = le_refl v
at_most_last v (w ∷ vs) e =
    let k = both_true (ltb v w) _ e in
    let l = at_most_last w vs k.1 in omega (arith, ltb-true v w k.0, l)

or_under : (n v m : ℕ) → v ≤ m → (ltb n v || ltb n m) ≡ ltb n m
or_under n v m h = go (ltb n v) refl
  where
    go : (b : Bool) → ltb n v ≡ b → (b || ltb n m) ≡ ltb n m
    go true e = sym (lt-ltb n m (omega (arith, ltb-true n v e)))
    go false e = refl

-- one is past n exactly when the last is
pub any_past : (n v : ℕ) (vs : List ℕ) → ascend (v ∷ vs) ≡ true → any (ltb n) (v ∷ vs) ≡ ltb n (last_after v vs)
unfolding any ascend last_after
any_past n v [] e = or-false (ltb n v)
any_past n v (w ∷ vs) e =
    let k = both_true (ltb v w) _ e in
    let l = at_most_last w vs k.1 in
    ap (λ (b : Bool). ltb n v || b) (any_past n w vs k.1) ∙ or_under n v (last_after w vs) (omega (arith, ltb-true v w k.0, l))

past_last : (n : ℕ) (vs : List ℕ) → ascend vs ≡ true → any (ltb n) vs ≡ ltb n (last_after 0 vs)
unfolding any last_after
past_last n [] e = sym (le-ltb n 0 (omega arith))
past_last n (v ∷ vs) e = any_past n v vs e

-- ---- the line

unfoldable pub partition_kind : Kind (List ℕ) PartitionLine
unfolding no_partition
partition_kind =
    record {
      ok = λ t. t.ok;
      outside = λ t. t.outside;
      number = λ t. t.number;
      no_more = no_partition;
      good = λ e. record { ok = true; outside = false; number = e.number; listed = view_list e.value };
      test = λ e. up_to most_partitions e.number && all (up_to most_views) e.value;
      ok_no_more = λ b. refl;
      outside_no_more = λ b. refl;
      ok_good = λ e. refl;
      outside_good = λ e. refl;
      number_good = λ e. refl;
    }

pub partition_reading : (o : Option (Numbered (List ℕ))) → partition_value o ≡ reading partition_kind o
unfolding partition_value reading partition_kind
partition_reading none = refl
partition_reading (some e) = refl

module _ (d : Declared) (o : Option (Numbered (List ℕ))) (views partitions : ℕ) (t : PartitionLine)
    (view_count : views ≡ length d.views) (count : partitions ≡ length d.partitions) (value : t ≡ partition_value o) where
  read : t ≡ reading partition_kind o
  read = value ∙ partition_reading o

  after : Numbered (List ℕ) → ℕ
  after e =
      cond (not (eqb e.number (suc (length d.partitions)) && ascend e.value)) 3
      (cond (any (ltb (length d.views)) e.value) 4 0)

  shape : (e : Numbered (List ℕ)) → partition_fault d e ≡ cond (not (partition_kind.test e)) 2 (after e)
  unfolding partition_fault first_fault after partition_kind
  shape e = refl

  pub partition_malformed : t.ok ≡ false → 1 ≡ line_fault o (partition_fault d)
  unfolding partition_kind
  partition_malformed h = malformed_fault partition_kind o t read (partition_fault d) after shape h

  pub partition_outside : t.ok ≡ true → t.outside ≡ true → 2 ≡ line_fault o (partition_fault d)
  unfolding partition_kind
  partition_outside h g = outside_fault partition_kind o t read (partition_fault d) after shape h g

  module _ (ok : t.ok ≡ true) (inside : t.outside ≡ false) (positive : 1 ≤ t.number) where
    pub partition_within : Within partition_kind o t
    unfolding partition_kind
    partition_within = within partition_kind o t read ok inside

    is_listed : t.listed ≡ view_list partition_within.entry.value
    unfolding partition_kind
    is_listed = ap (λ (l : PartitionLine). l.listed) partition_within.line

    checked : after partition_within.entry ≡ line_fault o (partition_fault d)
    checked = within_fault partition_kind o t read (partition_fault d) after shape partition_within

    pub partition_out_of_turn : (t.number - 1 ≡ partitions → ⊥) → 3 ≡ line_fault o (partition_fault d)
    unfolding partition_kind after
    partition_out_of_turn ne =
        let e = out_of_turn partition_kind o t read partition_within (length d.partitions) positive (λ q. ne (q ∙ sym count)) in
        rw e at checked

    ascends : t.listed.ascending ≡ ascend partition_within.entry.value
    unfolding view_list
    ascends = ap (λ l. l.ascending) is_listed

    module _ (turn : t.number - 1 ≡ partitions) where
      turned : eqb partition_within.entry.number (suc (length d.partitions)) ≡ true
      unfolding partition_kind
      turned = in_turn partition_kind o t read partition_within (length d.partitions) positive (turn ∙ count)

      pub partition_not_ascending : t.listed.ascending ≡ false → 3 ≡ line_fault o (partition_fault d)
      unfolding after
      partition_not_ascending e = rw (turned, sym ascends ∙ e) at checked

      last : ltb views t.listed.last ≡ ltb (length d.views) (last_after 0 partition_within.entry.value)
      unfolding view_list
      last = ap₂ ltb view_count (ap (λ l. l.last) is_listed)

      pub partition_unknown : t.listed.ascending ≡ true → views < t.listed.last → 4 ≡ line_fault o (partition_fault d)
      unfolding after
      partition_unknown e h =
          let a = sym ascends ∙ e in
          let p = past_last (length d.views) partition_within.entry.value a ∙ sym last ∙ lt-ltb views t.listed.last h in
          rw (turned, a, p) at checked

      pub partition_taken : t.listed.ascending ≡ true → t.listed.last ≤ views → 0 ≡ line_fault o (partition_fault d)
      unfolding after
      partition_taken e h =
          let a = sym ascends ∙ e in
          let p = past_last (length d.views) partition_within.entry.value a ∙ sym last ∙ le-ltb views t.listed.last h in
          rw (turned, a, p) at checked

-- ---- what the line declares

module _ (d : Declared) (l : List ℕ) (views partitions : ℕ) (t : PartitionLine) (view_count : views ≡ length d.views)
    (count : partitions ≡ length d.partitions) (value : t ≡ partition_value (partition_line l)) where
  pub partition_turned_back : (n : ℕ) → n ≡ line_fault (partition_line l) (partition_fault d) → (n ≡ 0 → ⊥)
      → enter partition_block d l ≡ faulty n
  unfolding enter
  partition_turned_back n e ne = faulty_entered (partition_line l) (partition_fault d) _ n e ne

  module _ (z : 0 ≡ line_fault (partition_line l) (partition_fault d)) where
    taken_partition : Within partition_kind (partition_line l) t
    taken_partition =
        taken partition_kind (partition_line l) t (read d (partition_line l) views partitions t view_count count value) (partition_fault d)
        (after d (partition_line l) views partitions t view_count count value)
        (shape d (partition_line l) views partitions t view_count count value) z

    -- the views of the partition
    pub new_partition : List ℕ
    new_partition = taken_partition.entry.value

    pub new_partition_value : t.listed.views ≡ (view_list new_partition).views
    unfolding new_partition partition_kind
    new_partition_value = ap (λ (k : PartitionLine). k.listed.views) taken_partition.line

    pub partition_declared : enter partition_block d l ≡ entered (more_partitions d new_partition)
    unfolding enter more_partitions new_partition taken_partition
    partition_declared =
        taken_entered partition_kind (partition_line l) t (read d (partition_line l) views partitions t view_count count value)
        (partition_fault d) (after d (partition_line l) views partitions t view_count count value)
        (shape d (partition_line l) views partitions t view_count count value) z (more_partitions d)
