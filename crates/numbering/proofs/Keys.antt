-- The keys of lines: those seen are kept, and every variable's key comes to stand among them.
use mathlib.Core.Path.{◌≡◌, refl, sym, subst}
use mathlib.Core.Logic.{⊎_elim}
use mathlib.Core.Bool.{Bool, true, false, cond}
use mathlib.Core.List.Memᴰ
use mathlib.Core.List.{List, [], ◌∷◌, ◌++◌}
use Prim.Native.Nat.{ℕ, suc, ◌<◌, zero-le, suc-le-suc}
use borrow.Author.Tests.{eq-eqb}
use lib.Dec.{T, eqb}
use lib.ListN.{length}
use mir.Facts.{eqb_yes}
use Rattle.theory.specs.Query.{◌∈◌}
use Rattle.theory.specs.Executable.Test.{any}
use Rattle.theory.proofs.Executable.Test.{any_iff}
use Rattle.text.specs.Lines.{before}
use Rattle.model.specs.declared.Term.{Term}
use Rattle.model.specs.declared.Line.{Line}
use Rattle.numbering.specs.Names.{is_key, entered, keys_in, keys_of}

-- ---- the place of a key that is there

pub before_member : (k : ℕ) (l : List ℕ) → k ∈ l → before k l < length l
unfolding before
before_member k [] m = absurd (Memᴰ.not-nil m)
before_member k (x ∷ l) m = ⊎_elim here (λ t. there (eqb x k) (before_member k l t)) (Memᴰ.cases_cons m)
  where
    here : k ≡ x → before k (x ∷ l) < suc (length l)
    here e = rw (eq-eqb x k (sym e)) (suc-le-suc zero-le)

    there : (t : Bool) → before k l < length l → cond t 0 (suc (before k l)) < suc (length l)
    there true h = suc-le-suc zero-le
    there false h = suc-le-suc h

-- ---- one key entered

behind : (k : ℕ) (l : List ℕ) → k ∈ l ++ k ∷ []
behind k [] = Memᴰ.head refl
behind k (x ∷ l) = Memᴰ.tail (behind k l)

in_front : {k : ℕ} (l m : List ℕ) → k ∈ l → k ∈ l ++ m
in_front [] m h = absurd (Memᴰ.not-nil h)
in_front (x ∷ l) m h = ⊎_elim (λ e. Memᴰ.head e) (λ t. Memᴰ.tail (in_front l m t)) (Memᴰ.cases_cons h)

-- those seen are kept
pub entered_kept : {k : ℕ} (seen : List ℕ) (x : ℕ) → k ∈ seen → k ∈ entered seen x
unfolding entered
entered_kept {k} seen x m = go (is_key x seen)
  where
    go : (b : Bool) → k ∈ cond b seen (seen ++ x ∷ [])
    go true = m
    go false = in_front seen (x ∷ []) m

-- the key is there then
pub entered_there : (seen : List ℕ) (k : ℕ) → k ∈ entered seen k
unfolding entered is_key
entered_there seen k = go (any (eqb k) seen) (λ t. let r = (any_iff (eqb k) seen).0 t in subst (◌∈ seen) (sym (eqb_yes r.2)) r.1)
  where
    go : (b : Bool) → (T b → k ∈ seen) → k ∈ cond b seen (seen ++ k ∷ [])
    go true f = f tt
    go false f = behind k seen

-- ---- the keys of terms

-- those seen, and a term's key where it is a variable
abbrev seen_with : List ℕ → Term → List ℕ
seen_with seen t = cond (eqb t.mark 3) (entered seen t.number) seen

seen_kept : {k : ℕ} (seen : List ℕ) (t : Term) → k ∈ seen → k ∈ seen_with seen t
seen_kept {k} seen t m = go (eqb t.mark 3)
  where
    go : (b : Bool) → k ∈ cond b (entered seen t.number) seen
    go true = entered_kept seen t.number m
    go false = m

pub keys_kept : {k : ℕ} (seen : List ℕ) (ts : List Term) → k ∈ seen → k ∈ keys_in seen ts
unfolding keys_in
keys_kept seen [] m = m
keys_kept seen (t ∷ ts) m = keys_kept (seen_with seen t) ts (seen_kept seen t m)

pub terms_keyed : (seen : List ℕ) (ts : List Term) (t : Term) → t ∈ ts → t.mark ≡ 3 → t.number ∈ keys_in seen ts
unfolding keys_in
terms_keyed seen [] t i e = absurd (Memᴰ.not-nil i)
terms_keyed seen (u ∷ ts) t i e =
    ⊎_elim (λ q. keys_kept (seen_with seen u) ts (rw (← q, eq-eqb t.mark 3 e) (entered_there seen t.number)))
    (λ j. terms_keyed (seen_with seen u) ts t j e) (Memᴰ.cases_cons i)

-- ---- the keys of lines

pub lines_kept : {k : ℕ} (seen : List ℕ) (ls : List Line) → k ∈ seen → k ∈ keys_of seen ls
unfolding keys_of
lines_kept seen [] m = m
lines_kept seen (l ∷ ls) m = lines_kept (keys_in seen l.terms) ls (keys_kept seen l.terms m)

lines_keyed : (seen : List ℕ) (ls : List Line) (l : Line) (t : Term) → l ∈ ls → t ∈ l.terms → t.mark ≡ 3 → t.number ∈ keys_of seen ls
unfolding keys_of
lines_keyed seen [] l t i j e = absurd (Memᴰ.not-nil i)
lines_keyed seen (m ∷ ls) l t i j e =
    ⊎_elim (λ q. lines_kept (keys_in seen m.terms) ls (rw (← q) (terms_keyed seen l.terms t j e)))
    (λ h. lines_keyed (keys_in seen m.terms) ls l t h j e) (Memᴰ.cases_cons i)

-- the key of every variable of the lines is among their keys
pub all_keyed : (ls : List Line) (l : Line) (t : Term) → l ∈ ls → t ∈ l.terms → t.mark ≡ 3 → t.number ∈ keys_of [] ls
all_keyed = lines_keyed []
