-- Entering a term into the words of the marks.
use mathlib.Core.Path.{◌≡◌, refl, sym, ◌∙◌}
use mathlib.Core.Logic.{◌↔◌, by_cases}
use mathlib.Core.Bool.{Bool, true, false, false≢true}
use mathlib.Core.List.{List}
use Prim.Native.Nat.{ℕ, ◌%◌}
use native.Mathlib.Nat.{mod-eq_of_lt}
use native.Mathlib.Decide.{ℕ_discrete}
use native.Mathlib.Omega.{arith}
use borrow.Author.Tests.{eq-eqb, ne_eqb}
use lib.ListN.{length, get_or, length-set}
use lib.Seq.{get_or-set_same, get_or-set_other}
use Rattle.words.proofs.Answers.{no_iff}
use Rattle.model.specs.Marks.{with_mark}
use Rattle.model.specs.Value.{unused_term}
use Rattle.model.specs.declared.Term.{Term}
use Rattle.validity.specs.Parts.{Place}
use Rattle.validity.specs.Entries.{marks, Within, entered, Entering}
use Rattle.validity.proofs.Terms.{within_word}

-- ---- the contract

pub not_entering : (used : Bool) {t : Term} (by by' : List ℕ) → (Place Within unused_term used t → ⊥) → Entering used t by by' false
not_entering used by by' f = record { right = no_iff f; done = λ e. absurd (false≢true e) }

pub entering_used : (used : Bool) → used ≡ true → {t : Term} {by by' : List ℕ} {r : Bool} → Entering true t by by' r
    → Entering used t by by' r
entering_used used e h = rw e h

pub entering_unused : (used : Bool) → used ≡ false → {t : Term} {by : List ℕ} {r : Bool} → (r ≡ true) ↔ (t ≡ unused_term)
    → Entering used t by by r
unfolding entered
entering_unused used e h = rw e (record { right = h; done = λ y. refl })

-- ---- the words

-- what a place enters: one that is not used, nothing, as if it held a constant, whose word nobody reads
unfoldable pub counts : Bool → Term → Term
counts true t = t
counts false t = record { mark = 1; number = 0 }

pub entered_length : (used : Bool) (t : Term) (by : List ℕ) → length (entered used t by) ≡ length by
unfolding entered
entered_length true t by = length-set by t.mark _
entered_length false t by = refl

-- the word of a mark gets the number of a term that has it. Not so for constants, whose numbers need not be bits of a word.
pub entered_word : (used : Bool) (t : Term) (by : List ℕ) → length by ≡ marks → Place Within unused_term used t → (m : ℕ) → (m ≡ 1 → ⊥)
    → get_or (entered used t by) m 0 ≡ with_mark m (get_or by m 0) (counts used t)
unfolding entered with_mark counts
entered_word true t by long w m f =
    by_cases (ℕ_discrete t.mark m)
    (λ e.
    let small = within_word t (λ q. f (sym e ∙ q)) w in
    let low : t.number % 64 ≡ t.number = mod-eq_of_lt (omega arith) in
    rw (eq-eqb t.mark m e, ← e, low) (get_or-set_same by t.mark _ 0 (omega (arith, w.marked))))
    (λ g. rw (ne_eqb t.mark m g) (get_or-set_other by t.mark m _ 0 (λ q. g (sym q))))
entered_word false t by long w m f = rw (ne_eqb 1 m (λ e. f (sym e))) refl
