-- Terms with the numbers of their variables, and a line that gets them one by one.
use mathlib.Core.Path.{◌≡◌, sym, ap, ◌∙◌}
use mathlib.Core.Bool.{Bool, cond}
use mathlib.Core.List.{List, ◌∷◌, ◌++◌, map, map-append, append-nil}
use Prim.Native.Nat.{ℕ, suc, ◌+◌, ◌≤◌, ◌<◌}
use native.Mathlib.Numerals.{add-one}
use native.Mathlib.Omega.{arith}
use borrow.Author.Tests.{eq-eqb, ne_eqb}
use lib.ListN.{length, take, drop, get_or, set, length-map, drop_of_length-le}
use lib.Seq.{get_or-append_seam, length-take-le, take-suc, take_all, drop-cons, set_at, append_snoc}
use Rattle.words.specs.Bits.{is_set}
use Rattle.text.specs.Lines.{before}
use Rattle.model.specs.declared.Term.{Term}
use Rattle.model.specs.declared.Line.{Line}
use Rattle.numbering.specs.Lines.{numbered_term, numbered_line}

-- ---- a term

pub numbered_other : (keys : List ℕ) (shown : ℕ) (t : Term) → (t.mark ≡ 3 → ⊥) → t ≡ numbered_term keys shown t
unfolding numbered_term
numbered_other keys shown t n = rw (ne_eqb t.mark 3 n)

pub numbered_variable : {b c : Bool} (keys : List ℕ) (shown : ℕ) (t : Term) (n : ℕ) → t.mark ≡ 3 → n ≡ before t.number keys
    → b ≡ is_set shown n → b ≡ c → record { mark = cond c 2 3; number = n } ≡ numbered_term keys shown t
unfolding numbered_term
numbered_variable keys shown t n m e s f = rw (eq-eqb t.mark 3 m, ← e, ← s, f)

-- ---- the terms of a line

-- the first p elements changed
abbrev pub changed : (Term → Term) → ℕ → List Term → List Term
changed f p ts = map f (take p ts) ++ drop p ts

-- the next one is not changed yet
pub changed_next : (f : Term → Term) (p : ℕ) (ts : List Term) (d : Term) → p < length ts → get_or (changed f p ts) p d ≡ get_or ts p d
changed_next f p ts d h =
    let long : length (map f (take p ts)) ≡ p = simp length-map (length-take-le p ts (omega arith)) in
    rw (drop-cons ts p d h) (ap (λ (n : ℕ). get_or (map f (take p ts) ++ get_or ts p d ∷ drop (suc p) ts) n d) (sym long)
    ∙ get_or-append_seam (map f (take p ts)) (get_or ts p d) (drop (suc p) ts) d)

pub changed_more : (f : Term → Term) (p : ℕ) (ts : List Term) (d : Term) → p < length ts
    → set (changed f p ts) p (f (get_or ts p d)) ≡ changed f (p + 1) ts
changed_more f p ts d h =
    ap (λ (l : List Term). set (map f (take p ts) ++ l) p (f (get_or ts p d))) (drop-cons ts p d h)
    ∙ set_at (map f (take p ts)) (get_or ts p d) (drop (suc p) ts) (f (get_or ts p d)) p (simp length-map (length-take-le p ts (omega arith)))
    ∙ rw (add-one p, take-suc ts p d h, map-append, append_snoc)

changed_all : (f : Term → Term) (p : ℕ) (ts : List Term) → length ts ≤ p → changed f p ts ≡ map f ts
changed_all f p ts h = rw (take_all p ts h, drop_of_length-le ts {i = p} h) (append-nil (map f ts))

pub numbered_all : (keys : List ℕ) (shown p : ℕ) (l : Line) → length l.terms ≤ p
    → record { table = l.table; terms = changed (numbered_term keys shown) p l.terms } ≡ numbered_line keys shown l
unfolding numbered_line
numbered_all keys shown p l h = λ i. record { table = l.table; terms = changed_all (numbered_term keys shown) p l.terms h i }
