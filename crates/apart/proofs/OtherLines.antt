-- The lines at the bits of a word without one of these bits: the lines without one of their places.
use mathlib.Core.Path.{◌≡◌, refl, sym, ap}
use mathlib.Core.Bool.{Bool, true, false, cond}
use mathlib.Core.Logic.{◌≢◌}
use mathlib.Core.List.{List, [], ◌∷◌}
use mathlib.Core.Option.{some}
use Prim.Native.Nat.{ℕ, zero, suc, ◌<◌}
use native.Mathlib.Nat.{not-suc-le-zero, le_of_suc-le-suc, suc_inj, suc-ne-zero}
use lib.ListN.{length, get_or, get_elem?}
use Rattle.theory.specs.Query.{Query}
use Rattle.theory.specs.Reduce.{without}
use Rattle.words.specs.Bits.{is_set}
use Rattle.words.specs.Sets.{clear_bit}
use Rattle.words.proofs.Bits.{is_clear}
use Rattle.words.proofs.ClearBits.{clear_bit_same, clear_bit_other}
use Rattle.entering.specs.Agree.{line_at}
use Rattle.entering.specs.Left.{pick, lines_at}
use Rattle.entering.proofs.Left.{pick_same}

-- the element is at a place of the list, and the rest is the list without this place
abbrev TakenOut : {X : Type 0} → X → (l rest : List X) → Type 0
TakenOut x l rest = (j : ℕ) × (get_elem? l j ≡ some x) × (rest ≡ without j l)

module _ {X : Type 0} where
  -- behind an element that is in both lists or in neither
  behind : (b : Bool) (y : X) {x : X} (l rest : List X) → TakenOut x l rest → TakenOut x (cond b (y ∷ l) l) (cond b (y ∷ rest) rest)
  behind true y l rest (j, at, e) = (suc j, at, ap (λ (m : List X). y ∷ m) e)
  behind false y l rest t = t

  -- g passes what f passes, but for the place i
  pick_but_one : (d : X) (f g : ℕ → Bool) (l : List X) (i : ℕ) → i < length l → f i ≡ true → g i ≡ false
      → ((j : ℕ) → j ≢ i → g j ≡ f j) → TakenOut (get_or l i d) (pick f l) (pick g l)
  unfolding pick
  pick_but_one d f g [] i h t e s = absurd (not-suc-le-zero h)
  pick_but_one d f g (x ∷ l) zero h t e s =
      rw (t, e) (zero, refl, pick_same (λ k. g (suc k)) (λ k. f (suc k)) l (λ j. s (suc j) (suc-ne-zero j)))
  pick_but_one d f g (x ∷ l) (suc i) h t e s =
      rw (s 0 (λ p. suc-ne-zero i (sym p)))
      (behind (f 0) x (pick (λ k. f (suc k)) l) (pick (λ k. g (suc k)) l)
      (pick_but_one d (λ k. f (suc k)) (λ k. g (suc k)) l i (le_of_suc-le-suc h) t e (λ j n. s (suc j) (λ p. n (suc_inj p)))))

-- the line at a set bit, and the lines of the word with this bit clear
pub other_lines : (left : ℕ) (S : Query) (k : ℕ) → k < length S → is_set left k ≡ true
    → (j : ℕ) × (get_elem? (lines_at left S) j ≡ some (line_at S k)) × (lines_at (clear_bit left k) S ≡ without j (lines_at left S))
unfolding lines_at line_at
other_lines left S k h t =
    pick_but_one (record { table = 0; columns = [] }) (is_set left) (is_set (clear_bit left k)) S k h t
    (is_clear (clear_bit left k) k (clear_bit_same left k)) (λ j n. rw (clear_bit_other left k j n))
