-- Keys and their places: two keys of a list that have the same place are one, so a key stands twice exactly when its place does.
use mathlib.Core.Path.{◌≡◌, refl, sym, ap, ap₂, ◌∙◌}
use mathlib.Core.Bool.{Bool, true, false, ◌||◌}
use mathlib.Core.List.{List, [], ◌∷◌, ◌++◌, map, map-append}
use Prim.Native.Nat.{ℕ, suc, ◌<◌}
use native.Mathlib.Nat.{not-suc-le-zero}
use native.Mathlib.Decide.{ℕ_discrete}
use native.Mathlib.Omega.{arith}
use lib.Dec.{eqb, eqb→eq}
use lib.ListN.{length}
use borrow.Author.Tests.{eq-eqb, ne_eqb}
use Rattle.theory.specs.Executable.Test.{any}
use Rattle.theory.proofs.Executable.Test.{any_more, same_test}
use Rattle.words.proofs.Answers.{true_holds}
use Rattle.text.specs.Lines.{before}
use Rattle.rules.specs.Rule.{Name}
use Rattle.rule_text.specs.Keys.{key}
use Rattle.numbering.specs.Names.{is_key}
use Rattle.numbering.proofs.Search.{eqb_sym}
use Rattle.rule_body.specs.Head.{placed_at, repeats_key}

-- ---- one more behind

pub placed_more : (keys : List ℕ) (xs : List Name) (x : Name) (n : ℕ)
    → placed_at keys (xs ++ x ∷ []) n ≡ (placed_at keys xs n || eqb (before (key x) keys) n)
unfolding placed_at
placed_more keys xs x n = any_more (λ (y : Name). eqb (before (key y) keys) n) xs x

regroup : (a b c d : Bool) → ((a || b) || (c || d)) ≡ ((a || c) || (b || d))
regroup true b c d = refl
regroup false true true d = refl
regroup false true false d = refl
regroup false false c d = refl

key_repeats : (l : List ℕ) (k : ℕ) → repeats_key (l ++ k ∷ []) ≡ (repeats_key l || is_key k l)
unfolding repeats_key is_key any
key_repeats [] k = refl
key_repeats (y ∷ l) k =
    rw (any_more (eqb y) l k, key_repeats l k, eqb_sym y k) (regroup (any (eqb y) l) (eqb k y) (repeats_key l) (any (eqb k) l))

pub repeats_more : (xs : List Name) (x : Name)
    → repeats_key (map key (xs ++ x ∷ [])) ≡ (repeats_key (map key xs) || is_key (key x) (map key xs))
repeats_more xs x = ap repeats_key (map-append key xs (x ∷ [])) ∙ key_repeats (map key xs) (key x)

-- ---- one key at a place

one_key : (a b : ℕ) (l : List ℕ) → before a l < length l → before a l ≡ before b l → a ≡ b
unfolding before
one_key a b [] h e = absurd (not-suc-le-zero h)
one_key a b (x ∷ l) h e = go (ℕ_discrete x a) (ℕ_discrete x b) (one_key a b l)
  where
    here : (k : ℕ) → x ≡ k → before k (x ∷ l) ≡ 0
    here k p = rw (eq-eqb x k p)

    there : (k : ℕ) → (x ≡ k → ⊥) → before k (x ∷ l) ≡ suc (before k l)
    there k n = rw (ne_eqb x k n)

    go : Dec (x ≡ a) → Dec (x ≡ b) → (before a l < length l → before a l ≡ before b l → a ≡ b) → a ≡ b
    go (yes p) (yes q) f = sym p ∙ q
    go (yes p) (no n) f = absurd (omega (arith, here a p, there b n, e))
    go (no n) (yes q) f = absurd (omega (arith, there a n, here b q, e))
    go (no n) (no m) f = f (omega (arith, there a n, h)) (omega (arith, there a n, there b m, e))

-- the names with the place of a key are those with that key
pub placed_key : (keys : List ℕ) (xs : List Name) (k : ℕ) → before k keys < length keys
    → placed_at keys xs (before k keys) ≡ is_key k (map key xs)
unfolding placed_at is_key any
placed_key keys [] k h = refl
placed_key keys (y ∷ xs) k h = ap₂ (λ (a b : Bool). a || b) one (placed_key keys xs k h)
  where
    one : eqb (before (key y) keys) (before k keys) ≡ eqb k (key y)
    one =
        same_test (eqb (before (key y) keys) (before k keys)) (eqb k (key y))
        (λ t. true_holds (eq-eqb k (key y) (one_key k (key y) keys h (sym (eqb→eq (before (key y) keys) (before k keys) t)))))
        (λ t. true_holds (eq-eqb (before (key y) keys) (before k keys) (ap (λ (j : ℕ). before j keys) (sym (eqb→eq k (key y) t)))))
