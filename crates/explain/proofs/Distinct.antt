-- Words gathered once, from the last to the first.
use mathlib.Core.Path.{◌≡◌, refl, sym, ap, ◌∙◌}
use mathlib.Core.Bool.{Bool, true, false, cond, ◌||◌}
use mathlib.Core.List.Permᴰ
use mathlib.Core.List.{List, [], ◌∷◌, ◌++◌, reverse, reverse-cons}
use mathlib.Core.List.{Permᴰ}
use Prim.Native.Nat.{ℕ}
use borrow.Author.Tests.{eqb-true}
use lib.Dec.{eqb}
use Rattle.theory.specs.Executable.Test.{any}
use Rattle.explain.specs.Explanation.{distinct}

or_swap : (a b c : Bool) → (a || (b || c)) ≡ (b || (a || c))
or_swap true true c = refl
or_swap true false c = refl
or_swap false b c = refl

-- ---- the order of words plays no part in a search

any_permuted : (f : ℕ → Bool) {l m : List ℕ} → Permᴰ l m → any f l ≡ any f m
unfolding any
any_permuted f Permᴰ.nil = refl
any_permuted f (Permᴰ.cons e p) = rw (e, any_permuted f p)
any_permuted f (Permᴰ.swap {a = a} {b = b} {l = l} e g) = or_swap (f a) (f b) (any f l) ∙ rw (e, g)
any_permuted f (Permᴰ.trans p q) = any_permuted f p ∙ any_permuted f q

-- ---- dropping repeats drops no word

same_word : (v w : ℕ) (l : List ℕ) (b : Bool) → eqb v w ≡ b → any (eqb w) l ≡ true → any (eqb v) l ≡ (b || any (eqb v) l)
same_word v w l true e h = ap (λ (x : ℕ). any (eqb x) l) (eqb-true v w e) ∙ h
same_word v w l false e h = refl

kept_once : (v w : ℕ) (l m : List ℕ) (b : Bool) → any (eqb w) l ≡ b → any (eqb v) m ≡ any (eqb v) l
    → any (eqb v) (cond b m (w ∷ m)) ≡ (eqb v w || any (eqb v) l)
unfolding any
kept_once v w l m true h e = e ∙ same_word v w l (eqb v w) refl h
kept_once v w l m false h e = ap (λ (b : Bool). eqb v w || b) e

any_distinct : (v : ℕ) (l : List ℕ) → any (eqb v) (distinct l) ≡ any (eqb v) l
unfolding distinct
any_distinct v [] = refl
any_distinct v (w ∷ l) = kept_once v w l (distinct l) (any (eqb w) l) refl (any_distinct v l)

-- ---- one more word in front

reverse_cond : (b : Bool) (v : ℕ) (l : List ℕ) → reverse (cond b l (v ∷ l)) ≡ cond b (reverse l) (reverse l ++ v ∷ [])
reverse_cond true v l = refl
reverse_cond false v l = reverse-cons v l

-- a word is put behind the others unless it is there
pub distinct_more : (v : ℕ) (l : List ℕ) →
    let r = reverse (distinct l) in
    reverse (distinct (v ∷ l)) ≡ cond (any (eqb v) r) r (r ++ v ∷ [])
unfolding distinct
distinct_more v l =
    let r = reverse (distinct l) in
    reverse_cond (any (eqb v) l) v (distinct l)
    ∙ ap (λ (b : Bool). cond b r (r ++ v ∷ [])) (sym (any_permuted (eqb v) (Permᴰ.reverse (distinct l)) ∙ any_distinct v l))
