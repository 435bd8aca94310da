-- Lines and fields go by the first byte that parts them: the place of that byte, and the pieces before and after it.
use mathlib.Core.Path.{◌≡◌, refl, sym, ap, ◌∙◌}
use mathlib.Core.Bool.{Bool, true, false, cond}
use mathlib.Core.List.Memᴰ
use mathlib.Core.List.{List, [], ◌∷◌, ◌++◌}
use Prim.Native.Nat.{ℕ, suc, ◌+◌, ◌≤◌, ◌<◌, zero-le, suc-le-suc}
use native.Mathlib.Nat.{not-suc-le-zero, le_of_suc-le-suc, suc_inj}
use native.Mathlib.Numerals.{add-one}
use native.Mathlib.Omega.{arith}
use lib.Dec.{eqb}
use lib.ListN.{length, get_or, take, drop, drop_of_length-le}
use lib.Seq.{drop-cons}
use borrow.Author.Tests.{eq-eqb, ne_eqb}
use Rattle.std.specs.List.{position_or_len}
use Rattle.std.proofs.lemmas.List.Recursion.{is_position_or_len}
use Rattle.std.proofs.lemmas.List.Sums.{position_or_len_is}
use Rattle.text.specs.Lines.{Split, push, split, parts, before}
use Rattle.text.proofs.Each.{Each}

-- bytes among which there is no b
abbrev pub Free : ℕ → List ℕ → Type 0
Free b = Each (λ x. x ≡ b → ⊥)

-- ---- the first byte that equals b

pub before_le : (b : ℕ) (l : List ℕ) → before b l ≤ length l
unfolding before
before_le b [] = zero-le
before_le b (x ∷ l) = go (eqb x b) (before_le b l)
  where
    go : (t : Bool) → before b l ≤ length l → cond t 0 (suc (before b l)) ≤ suc (length l)
    go true h = zero-le
    go false h = suc-le-suc h

-- b stands first
before_here : (b x : ℕ) (l : List ℕ) → x ≡ b → before b (x ∷ l) ≡ 0
unfolding before
before_here b x l e = ap (λ (t : Bool). cond t 0 (suc (before b l))) (eq-eqb x b e)

-- another byte stands first
before_there : (b x : ℕ) (l : List ℕ) → (x ≡ b → ⊥) → before b (x ∷ l) ≡ suc (before b l)
unfolding before
before_there b x l n = ap (λ (t : Bool). cond t 0 (suc (before b l))) (ne_eqb x b n)

-- what a search answers: none before place i is b, and the one there is
pub before_at : {b i : ℕ} (l : List ℕ) → i ≤ length l → ((k : ℕ) → k < i → get_or l k 0 ≡ b → ⊥) → (i < length l → get_or l i 0 ≡ b)
    → i ≡ before b l
unfolding before
before_at {b} {i} l h n e =
    let is : (m : List ℕ) → before b m ≡ position_or_len (λ x. eqb x b) m
    = is_position_or_len (before b) (λ x. eqb x b) refl (λ x m. let s : suc (before b m) ≡ 1 + before b m = omega arith in ap (cond (eqb x b) 0) s) in
    sym (is l ∙ position_or_len_is (λ x. eqb x b) l i 0 h (λ k lt. ne_eqb (get_or l k 0) b (n k lt)) (λ lt. eq-eqb (get_or l i 0) b (e lt)))

-- a search for b in l has passed i bytes
pub record Passed (b : ℕ) (l : List ℕ) (i : ℕ) : Type 0 where
  pub within : i ≤ length l
  pub ahead : before b l ≡ i + before b (drop i l)

pub passed_none : (b : ℕ) (l : List ℕ) → Passed b l 0
passed_none b l = record { within = zero-le; ahead = omega arith }

pub passed_more : {b i : ℕ} {l : List ℕ} → Passed b l i → i < length l → (get_or l i 0 ≡ b → ⊥) → Passed b l (i + 1)
passed_more {b} {i} {l} p h n =
    let e : before b (drop i l) ≡ suc (before b (drop (i + 1) l))
    = rw (add-one, drop-cons l i 0) (before_there b (get_or l i 0) (drop (suc i) l) n) in
    omega arith

pub passed_found : {b i : ℕ} {l : List ℕ} → Passed b l i → i < length l → get_or l i 0 ≡ b → i ≡ before b l
passed_found {b} {i} {l} p h e =
    let z : before b (drop i l) ≡ 0 = rw (drop-cons l i 0) (before_here b (get_or l i 0) (drop (suc i) l) e) in
    omega arith

pub passed_all : {b i : ℕ} {l : List ℕ} → Passed b l i → length l ≤ i → i ≡ before b l
unfolding before
passed_all {b} {i} {l} p h = let z : before b (drop i l) ≡ 0 = rw (drop_of_length-le l h) in omega arith

-- ---- the pieces

-- the first piece, and the split of what follows its end
abbrev pub parted : ℕ → List ℕ → List ℕ → Split
parted b p r = record { ended = p ∷ (split b r).ended; rest = (split b r).rest }

pub split_none : (b : ℕ) (l : List ℕ) → before b l ≡ length l → split b l ≡ record { ended = []; rest = l }
unfolding before split push
split_none b [] e = refl
split_none b (x ∷ l) e = go (eqb x b) e (λ r. split_none b l r)
  where
    go : (t : Bool) → cond t 0 (suc (before b l)) ≡ suc (length l)
        → (before b l ≡ length l → split b l ≡ record { ended = []; rest = l })
        → cond t (parted b [] l) (push x (split b l)) ≡ record { ended = []; rest = x ∷ l }
    go true r ih = absurd (omega arith)
    go false r ih = ap (push x) (ih (suc_inj r))

pub split_found : (b : ℕ) (l : List ℕ) → before b l < length l
    → split b l ≡ parted b (take (before b l) l) (drop (suc (before b l)) l)
unfolding before split push
split_found b [] h = absurd (not-suc-le-zero h)
split_found b (x ∷ l) h = go (eqb x b) h (λ r. split_found b l r)
  where
    go : (t : Bool) → cond t 0 (suc (before b l)) < suc (length l)
        → (before b l < length l → split b l ≡ parted b (take (before b l) l) (drop (suc (before b l)) l))
        → cond t (parted b [] l) (push x (split b l))
        ≡ parted b (take (cond t 0 (suc (before b l))) (x ∷ l)) (drop (suc (cond t 0 (suc (before b l)))) (x ∷ l))
    go true r ih = refl
    go false r ih = ap (push x) (ih (le_of_suc-le-suc r))

pub split_pieces : (b : ℕ) (p r : List ℕ) → Free b p → split b (p ++ b ∷ r) ≡ parted b p r
unfolding split push
split_pieces b [] r n = ap (λ (t : Bool). cond t (parted b [] r) (push b (split b r))) (eq-eqb b b refl)
split_pieces b (x ∷ p) r n =
    ap (λ (t : Bool). cond t (parted b [] (p ++ b ∷ r)) (push x (split b (p ++ b ∷ r)))) (ne_eqb x b (n x (Memᴰ.head refl)))
    ∙ ap (push x) (split_pieces b p r (λ y m. n y (Memᴰ.tail m)))

pub before_clean : (b : ℕ) (p : List ℕ) → Free b p → before b p ≡ length p
unfolding before
before_clean b [] n = refl
before_clean b (x ∷ p) n = before_there b x p (n x (Memᴰ.head refl)) ∙ ap suc (before_clean b p (λ y m. n y (Memᴰ.tail m)))

-- b stands first behind bytes that are others
pub before_ended : (b : ℕ) (p r : List ℕ) → Free b p → before b (p ++ b ∷ r) ≡ length p
before_ended b [] r n = before_here b b r refl
before_ended b (x ∷ p) r n =
    before_there b x (p ++ b ∷ r) (n x (Memᴰ.head refl)) ∙ ap suc (before_ended b p r (λ y m. n y (Memᴰ.tail m)))

pub split_clean : (b : ℕ) (p : List ℕ) → Free b p → split b p ≡ record { ended = []; rest = p }
split_clean b p n = split_none b p (before_clean b p n)

-- ---- the parts

pub parts_last : (sep : ℕ) (l : List ℕ) → before sep l ≡ length l → parts sep l ≡ l ∷ []
unfolding parts
parts_last sep l e = ap (λ (s : Split). s.ended ++ s.rest ∷ []) (split_none sep l e)

pub parts_more : (sep : ℕ) (l : List ℕ) → before sep l < length l
    → parts sep l ≡ take (before sep l) l ∷ parts sep (drop (suc (before sep l)) l)
unfolding parts
parts_more sep l h = ap (λ (s : Split). s.ended ++ s.rest ∷ []) (split_found sep l h)
