-- The terms of a line, entered one by one.
use mathlib.Core.Path.{◌≡◌, refl, sym, ap, ◌∙◌}
use mathlib.Core.Logic.{◌↔◌, by_cases}
use mathlib.Core.Bool.{Bool, true, false, not, false≢true}
use mathlib.Core.List.{List}
use Prim.Native.Nat.{ℕ, ◌+◌, ◌≤◌, ◌<◌}
use native.Mathlib.Decide.{ℕ_discrete, dec_lt}
use native.Mathlib.Omega.{arith}
use borrow.Author.Count.{below_more}
use borrow.Author.Tests.{not-true, lt-ltb, le-ltb}
use lib.Dec.{ltb}
use lib.ListN.{length, get_or}
use Rattle.theory.specs.Executable.Test.{kind, number}
use Rattle.words.specs.Bits.{bit}
use Rattle.words.specs.Sets.{meet}
use Rattle.words.proofs.Bits.{below_power, bit_zero}
use Rattle.words.proofs.Lowest.{trailing_least}
use Rattle.words.proofs.Tests.{meet_iff}
use Rattle.model.specs.Limits.{most_columns, last_variable}
use Rattle.model.specs.Value.{term_value, unused_term}
use Rattle.model.specs.declared.Term.{Term}
use Rattle.validity.specs.Parts.{Place, TermOf, TermPlace}
use Rattle.validity.specs.Entries.{marks, Within, entered, TermsFor}
use Rattle.validity.proofs.Held.{place_used, place_unused, used_place, unused_place}
use Rattle.validity.proofs.Terms.{term_path, good_within, within_good, within_word}
use Rattle.validity.proofs.Marks.{Marks, marks_more}
use Rattle.validity.proofs.Entries.{counts, entered_length, entered_word}

-- what place k enters
abbrev entry : ℕ → List Term → ℕ → Term
entry w ts k = counts (ltb k w) (get_or ts k unused_term)

-- what the first i places have shown, and the words of all marks but the constants'
pub record Looked (w : ℕ) (ts : List Term) (by : List ℕ) (i : ℕ) : Type 0 where
  pub few : i ≤ most_columns
  pub long : length by ≡ marks
  pub places : (k : ℕ) → k < i → Place Within unused_term (ltb k w) (get_or ts k unused_term)
  pub words : (m : ℕ) → (m ≡ 1 → ⊥) → Marks m (entry w ts) (get_or by m 0) i

module _ (w : ℕ) (ts : List Term) where
  pub looked_more : {by by' : List ℕ} {i : ℕ} → Looked w ts by i → i < most_columns
      → Place Within unused_term (ltb i w) (get_or ts i unused_term) → by' ≡ entered (ltb i w) (get_or ts i unused_term) by
      → Looked w ts by' (i + 1)
  looked_more {by} {by'} {i} l b p e =
      record {
        few = omega arith;
        long = ap length e ∙ entered_length _ _ by ∙ l.long;
        places = below_more _ i l.places p;
        words = λ m f.
            rw (e, entered_word (ltb i w) (get_or ts i unused_term) by l.long p m f)
            (marks_more m (entry w ts) (get_or by m 0) i (l.words m f));
      }

-- ---- at the end

-- a word that is not 0 has a bit
some_bit : (n : ℕ) → 0 < n → (k : ℕ) × (bit n k ≡ 1)
some_bit n h = let r = trailing_least n n h (below_power n) in (_, r.set)

not_from : (b : Bool) → (b ≡ true → ⊥) → not b ≡ true
not_from true f = absurd (f refl)
not_from false f = refl

-- a place that is right is entered
pub right_within : (used : Bool) (t : Term) → TermPlace used t → Place Within unused_term used t
right_within true t p = (good_within t p).1
right_within false t p = p

module _ (w : ℕ) (ts : List Term) (k : ℕ) where
  used_entry : k < w → entry w ts k ≡ get_or ts k unused_term
  unfolding counts
  used_entry h = rw (lt-ltb k w h) refl

  -- what is entered under another mark than the constants' stands at a used place
  entry_used : {m n : ℕ} → (m ≡ 1 → ⊥) → entry w ts k ≡ record { mark = m; number = n } → k < w
  unfolding counts
  entry_used f e =
      by_cases (dec_lt k w) (λ h. h)
      (λ h.
      let none : ltb k w ≡ false = le-ltb k w (omega arith) in
      absurd (f (sym (ap (λ (t : Term). t.mark) (rw none at e)))))

module _ {w : ℕ} {ts : List Term} {by : List ℕ} {i : ℕ} (l : Looked w ts by i) (all : most_columns ≤ i) where
  -- a bit of a mark's word is the number of a term that stands at a used place
  found : (m n : ℕ) → (m ≡ 1 → ⊥) → bit (get_or by m 0) n ≡ 1
      → (k : ℕ) × (k < most_columns) × (k < w) × (get_or ts k unused_term ≡ record { mark = m; number = n })
  found m n f b =
      let r = (l.words m f n).0 b in
      let h = entry_used w ts r.0 f r.2 in
      (r.0, omega (arith, r.1, l.few), h, sym (used_entry w ts r.0 h) ∙ r.2)

  -- such a term has its bit
  put : (m n k : ℕ) → (m ≡ 1 → ⊥) → k < most_columns → k < w → get_or ts k unused_term ≡ record { mark = m; number = n }
      → bit (get_or by m 0) n ≡ 1
  put m n k f b h e = (l.words m f n).1 (k, omega arith, used_entry w ts k h ∙ e)

  -- ---- no used place is without a mark

  pub looked_marked : TermsFor w ts → get_or by 0 0 ≡ 0
  unfolding unused_term
  looked_marked d =
      by_cases (ℕ_discrete (get_or by 0 0) 0) (λ e. e)
      (λ f.
      let some = some_bit (get_or by 0 0) (omega arith) in
      let r = found 0 some.0 (omega arith) some.1 in
      let good = place_used TermOf unused_term r.0 w r.2 (d.places r.0 r.1) in
      absurd (omega (arith, (good_within _ good).0, ap (λ (t : Term). t.mark) r.3)))

  looked_places : get_or by 0 0 ≡ 0 → (k : ℕ) → k < most_columns → TermPlace (ltb k w) (get_or ts k unused_term)
  unfolding unused_term
  looked_places none k b =
      let p = l.places k (omega arith) in
      by_cases (dec_lt k w)
      (λ h.
      let t = get_or ts k unused_term in
      let in_limit = place_used Within unused_term k w h p in
      let unmarked : t.mark ≡ 0 → ⊥ = λ e.
      omega (arith, bit_zero t.number, ap (λ (x : ℕ). bit x t.number) none, put 0 t.number k (omega arith) b h (term_path e refl))
      in
      used_place TermOf unused_term k w h (within_good t (omega arith) in_limit))
      (λ h.
      unused_place TermOf unused_term k w (omega arith) (place_unused Within unused_term k w (omega arith) p))

  -- ---- no variable is both shown and hidden

  -- a variable stands at a used place, and its number is within the limit
  standing : (k : ℕ) {m n : ℕ} → TermPlace (ltb k w) (get_or ts k unused_term) → 1 < m
      → get_or ts k unused_term ≡ record { mark = m; number = n } → (k < w) × (n ≤ last_variable)
  unfolding unused_term
  standing k p some e =
      let mark = ap (λ (t : Term). t.mark) e in
      by_cases (dec_lt k w)
      (λ h.
      let good = (good_within _ (place_used TermOf unused_term k w h p)).1 in
      (h, omega (arith, ap (λ (t : Term). t.number) e, within_word (get_or ts k unused_term) (λ q. omega arith) good)))
      (λ h. absurd (omega (arith, mark, ap (λ (t : Term). t.mark) (place_unused TermOf unused_term k w (omega arith) p))))

  pub looked_done : get_or by 0 0 ≡ 0 → (not (meet 64 (get_or by 2 0) (get_or by 3 0)) ≡ true) ↔ TermsFor w ts
  unfolding term_value kind number unused_term
  looked_done none = (
    λ e. record {
      places = looked_places none;
      clear = λ n j k a b s h.
          let p = standing j (looked_places none j a) (omega arith) s in
          let q = standing k (looked_places none k b) (omega arith) h in
          false≢true (sym (not-true (meet 64 (get_or by 2 0) (get_or by 3 0)) e)
          ∙ (meet_iff 64 (get_or by 2 0) (get_or by 3 0)).1 (
            n,
            omega (arith, p.1),
            put 2 n j (omega arith) a p.0 s,
            put 3 n k (omega arith) b q.0 h,
          ));
    },
    λ d. not_from (meet 64 (get_or by 2 0) (get_or by 3 0)) (λ e.
        let r = (meet_iff 64 (get_or by 2 0) (get_or by 3 0)).0 e in
        let p = found 2 r.0 (omega arith) r.2 in
        let q = found 3 r.0 (omega arith) r.3 in
        d.clear r.0 p.0 q.0 p.1 q.1 p.3 q.3),
  )
