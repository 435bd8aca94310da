-- The variables of one mark among the first terms of a line, as bits of a word.
use mathlib.Core.Path.{◌≡◌, sym, ap, ◌∙◌}
use mathlib.Core.Logic.{◌↔◌, by_cases, ⊎_elim}
use Prim.Native.Nat.{ℕ, ◌+◌, ◌<◌}
use native.Mathlib.Nat.{eq-or-lt_of_le}
use native.Mathlib.Decide.{ℕ_discrete}
use native.Mathlib.Omega.{arith}
use borrow.Author.Tests.{eq-eqb, ne_eqb}
use Rattle.words.specs.Bits.{bit}
use Rattle.words.specs.Sets.{set_bit}
use Rattle.words.proofs.SetBits.{set_bit_same, set_bit_other}
use Rattle.model.specs.Marks.{with_mark}
use Rattle.model.specs.declared.Term.{Term}
use Rattle.validity.proofs.Terms.{term_path}

module _ (mark : ℕ) (at : ℕ → Term) where
  -- the term stands among the first i
  abbrev Found : ℕ → Term → Type 0
  Found i t = (k : ℕ) × (k < i) × (at k ≡ t)

  -- bit n is set where one of the first i terms has the mark and the number n
  abbrev pub Marks : ℕ → ℕ → Type 0
  Marks word i = (n : ℕ) → (bit word n ≡ 1) ↔ Found i (record { mark = mark; number = n })

  found_later : {i : ℕ} {t : Term} → Found i t → Found (i + 1) t
  found_later r = (r.0, omega (arith, r.1), r.2)

  -- unless it is the one at i
  found_earlier : {i : ℕ} {t : Term} → (at i ≡ t → ⊥) → Found (i + 1) t → Found i t
  found_earlier {i} {t} other r =
      let k = r.0 in
      let h : k < i + 1 = r.1 in
      ⊎_elim (λ e. absurd (other (sym (ap at e) ∙ r.2))) (λ l. (k, l, r.2)) (eq-or-lt_of_le {n = k} {m = i} (omega arith))

  module _ (m i : ℕ) (so_far : Marks m i) where
    one_marked : (at i).mark ≡ mark → Marks (set_bit m (at i).number) (i + 1)
    one_marked e n =
        by_cases (ℕ_discrete n (at i).number)
        (λ same. (λ b. (i, omega arith, term_path e (sym same)), λ r. rw same (set_bit_same m (at i).number)))
        (λ other. (
          λ b. found_later ((so_far n).0 (sym (set_bit_other m (at i).number n other) ∙ b)),
          λ r. set_bit_other m (at i).number n other
              ∙ (so_far n).1 (found_earlier (λ q. other (sym (ap (λ (t : Term). t.number) q))) r),
        ))

    none_marked : ((at i).mark ≡ mark → ⊥) → Marks m (i + 1)
    none_marked f n = (
      λ b. found_later ((so_far n).0 b),
      λ r. (so_far n).1 (found_earlier (λ q. f (ap (λ (t : Term). t.mark) q)) r),
    )

    -- the word with the bit of the term at i set, where that has the mark
    pub marks_more : Marks (with_mark mark m (at i)) (i + 1)
    unfolding with_mark
    marks_more =
        by_cases (ℕ_discrete (at i).mark mark) (λ e. rw (eq-eqb _ _ e) (one_marked e)) (λ f. rw (ne_eqb _ _ f) (none_marked f))
