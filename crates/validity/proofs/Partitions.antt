-- The words of views that partitions grant: which lists of words are those of good partitions, and the partitions of such a list.
use mathlib.Core.Path.{◌≡◌, sym, ap, subst, ◌∙◌}
use mathlib.Core.Logic.{◌↔◌, by_cases}
use mathlib.Core.Bool.{true}
use mathlib.Core.List.{List, map}
use mathlib.Core.Option.{some}
use Prim.Native.Nat.{ℕ, ◌+◌, ◌-◌, ◌/◌, ◌^◌, ◌≤◌, ◌<◌}
use native.Mathlib.Nat.{zero-add, one-mul, div-eq_of_lt, div-lt_iff_lt-mul}
use native.Mathlib.Decide.{dec_lt}
use native.Mathlib.Omega.{arith}
use borrow.Author.Tests.{eqb-true, eq-eqb}
use lib.Dec.{eqb, ltb}
use lib.ListN.{length, get_or, get_elem?, length-map}
use lib.Pow.{pow_pos}
use Rattle.theory.specs.Query.{◌∈◌}
use Rattle.theory.proofs.Lists.{place, at_place}
use Rattle.words.specs.Bits.{bit}
use Rattle.words.specs.TestBits.{up_from}
use Rattle.words.proofs.Answers.{true_holds, holds_true}
use Rattle.words.proofs.Bits.{bit_zero, bit_within, same_bits, is_set_lem}
use Rattle.words.proofs.TestBits.{up_from_length, made_of, made_at, at_made}
use Rattle.model.specs.Limits.{most_views, most_partitions}
use Rattle.model.proofs.Limits.{up_to_iff}
use Rattle.policy_text.specs.WellFormed.{GoodPartition}
use Rattle.policy_text.specs.Policy.{grants_of}
use Rattle.policy_text.specs.Abstract.{views_in, granted_at}
use Rattle.policy_text.proofs.Grants.{grants_bit, grants_below, grants_at, in_views, views_in_lem, views_ascend, good_below}
use Rattle.validity.specs.Parts.{GrantPlace, PartitionsHeld}
use Rattle.validity.proofs.Held.{place_used, place_unused, used_place, unused_place}

-- no bit at n or past it
pub shifted_iff : (n m : ℕ) → (eqb (m / 2 ^ n) 0 ≡ true) ↔ (m < 2 ^ n)
shifted_iff n m = (
  λ e. rw one-mul at ((div-lt_iff_lt-mul {x = m} {y = 1} (pow_pos n)).0 (omega (arith, eqb-true (m / 2 ^ n) 0 e))),
  λ h. eq-eqb (m / 2 ^ n) 0 (div-eq_of_lt h),
)

-- what the code finds of the words: from 1 to the most partitions, and each word as it should be
pub record Granted (views n : ℕ) (grants : List ℕ) : Type 0 where
  pub counted : (1 ≤ n) × (n ≤ most_partitions)
  pub places : (k : ℕ) → k < most_views → GrantPlace n (ltb k views) (get_or grants k 0)

module _ (views n : ℕ) (grants : List ℕ) where
  -- ---- from the partitions to the words

  pub partitions_granted : PartitionsHeld views n grants → Granted views n grants
  partitions_granted h = record {
    counted = subst (λ (m : ℕ). (1 ≤ m) × (m ≤ most_partitions)) (sym h.count) (h.listed.nonempty, h.listed.few);
    places = λ k b.
        by_cases (dec_lt k views) (λ l. used_place _ 0 k views l (small k b))
        (λ l. unused_place _ 0 k views (omega arith) (none k b l));
  }
    where
      ps : List (List ℕ)
      ps = h.things

      word : (k : ℕ) → k < most_views → get_or grants k 0 ≡ grants_of ps (k + 1)
      word k b = ap (λ (l : List ℕ). get_or l k 0) h.is ∙ grants_at ps k b

      small : (k : ℕ) → k < most_views → get_or grants k 0 < 2 ^ n
      small k b =
          subst (λ (m : ℕ). get_or grants k 0 < 2 ^ m) (sym h.count)
          (subst (λ (w : ℕ). w < 2 ^ length ps) (sym (word k b)) (grants_below ps (k + 1)))

      -- no partition lists a view past the last
      none : (k : ℕ) → k < most_views → (k < views → ⊥) → get_or grants k 0 ≡ 0
      none k b l =
          word k b
          ∙ same_bits (length ps) (grants_of ps (k + 1)) 0 (grants_below ps (k + 1)) (pow_pos (length ps)) (λ i. (
            λ e.
                let (ns, at, m) = (grants_bit ps (k + 1) i).0 e in
                absurd (l (omega (arith, (good_below views ns (h.listed.each ns (at_place ps i at)) (k + 1) m).1))),
            λ e. absurd (omega (arith, bit_zero i, e)),
          ))

  -- ---- from the words to the partitions

  -- the views of partition i, counted from 0
  abbrev partition : ℕ → List ℕ
  partition i = views_in views (granted_at grants i)

  partition_good : views ≤ most_views → (i : ℕ) → GoodPartition views (partition i)
  partition_good few i = record {
    within = λ v m. let (a, b, t) = in_views (granted_at grants i) views v m in (up_to_iff most_views v).1 (a, omega arith);
    ascending = views_ascend (granted_at grants i) views;
    declared = λ v m. (in_views (granted_at grants i) views v m).1;
  }

  pub granted_partitions : views ≤ most_views → length grants ≡ most_views → Granted views n grants → PartitionsHeld views n grants
  unfolding granted_at
  granted_partitions few long g = record {
    things = ps;
    listed = record {
      nonempty = rw count g.counted.0;
      few = rw count g.counted.1;
      each = λ ns m.
          let (i, e) = place m in
          let (b, q) = made_at partition 0 n i ns e in subst (GoodPartition views) (sym q) (partition_good few _);
    };
    count = sym count;
    is = rw long at (made_of (grants_of ps) 0 1 grants (λ k h. word k (rw long at h)));
  }
    where
      ps : List (List ℕ)
      ps = map partition (up_from 0 n)

      count : length ps ≡ n
      count = length-map (up_from 0 n) partition ∙ up_from_length 0 n

      -- the view at place k is in partition i where its word has the bit
      listed_iff : (k i : ℕ) → (k + 1 ∈ partition i) ↔ ((k < views) × (bit (get_or grants k 0) i ≡ 1))
      listed_iff k i =
          let back : k + 1 - 1 ≡ k = omega arith in (
            λ m.
                let (x, y, t) = in_views (granted_at grants i) views (k + 1) m in
                (omega arith, eqb-true _ _ (sym (holds_true _ (rw back at t)))),
            λ r.
                views_in_lem (granted_at grants i) views (k + 1) (omega arith) (omega (arith, r.0))
                (rw back (true_holds (is_set_lem _ i r.1))),
          )

      small : (k : ℕ) → k < most_views → get_or grants k 0 < 2 ^ n
      small k h =
          by_cases (dec_lt k views) (λ l. place_used _ 0 k views l (g.places k h))
          (λ l. rw (place_unused _ 0 k views (omega arith) (g.places k h)) (pow_pos n))

      used : (k i : ℕ) → k < most_views → bit (get_or grants k 0) i ≡ 1 → k < views
      used k i h e =
          by_cases (dec_lt k views) (λ l. l)
          (λ l. absurd (omega (arith, bit_zero i, rw (place_unused _ 0 k views (omega arith) (g.places k h)) at e)))

      word : (k : ℕ) → k < most_views → get_or grants k 0 ≡ grants_of ps (1 + k)
      word k h =
          let next : 1 + k ≡ k + 1 = omega arith in
          rw next (same_bits n (get_or grants k 0) (grants_of ps (k + 1)) (small k h) (rw count at (grants_below ps (k + 1))) (λ i. (
            λ e.
                let b = bit_within n i (small k h) e in
                let at : get_elem? ps i ≡ some (partition i) = rw zero-add at (at_made partition 0 n i b) in
                (grants_bit ps (k + 1) i).1 (partition i, at, (listed_iff k i).1 (used k i h e, e)),
            λ e.
                let (ns, at, m) = (grants_bit ps (k + 1) i).0 e in
                let q : ns ≡ partition i = rw zero-add at (made_at partition 0 n i ns at).1 in
                ((listed_iff k i).0 (subst (λ (l : List ℕ). k + 1 ∈ l) q m)).1,
          )))
