-- The parts of a list from a place on.
use mathlib.Core.Path.{◌≡◌, sym, ap, ◌∙◌}
use mathlib.Core.List.{List, [], ◌∷◌}
use Prim.Native.Nat.{ℕ, suc, ◌+◌, ◌-◌, ◌≤◌, ◌<◌, zero-le}
use native.Mathlib.Decide.{dec_lt}
use native.Mathlib.Omega.{arith}
use lib.ListN.{length, take, drop, length-drop}
use lib.Seq.{take_all, drop-drop}
use borrow.Author.Tests.{le-leb, lt-leb}
use Rattle.text.specs.Lines.{parts, parts_from, before}
use Rattle.text.proofs.Lines.{before_le, parts_last, parts_more}
use Rattle.text.proofs.Parts.{to_end}

pub from_first : (sep : ℕ) (s : List ℕ) → parts_from sep s 0 ≡ parts sep s
unfolding parts_from
from_first sep s = rw (le-leb 0 (length s) zero-le)

pub from_none : (sep : ℕ) (s : List ℕ) (i : ℕ) → length s < i → parts_from sep s i ≡ []
unfolding parts_from
from_none sep s i h = rw (lt-leb i (length s) h)

pub from_some : (sep : ℕ) (s : List ℕ) (i : ℕ) → i ≤ length s → parts_from sep s i ≡ parts sep (drop i s)
unfolding parts_from
from_some sep s i h = rw (le-leb i (length s) h)

-- the next part goes to the next separator, or to the end
pub from_next : (sep : ℕ) (s : List ℕ) (i : ℕ) → i ≤ length s
    → parts_from sep s i ≡ take (before sep (drop i s)) (drop i s) ∷ parts_from sep s (i + before sep (drop i s) + 1)
from_next sep s i h = from_some sep s i h ∙ go (dec_lt n (length l))
  where
    l : List ℕ
    l = drop i s

    n : ℕ
    n = before sep l

    go : Dec (n < length l) → parts sep l ≡ take n l ∷ parts_from sep s (i + n + 1)
    go (yes k) =
        let next : i + suc n ≡ i + n + 1 = omega arith in
        let rest : drop (suc n) l ≡ drop (i + n + 1) s = drop-drop (suc n) i s ∙ ap (λ (j : ℕ). drop j s) next in
        parts_more sep l k ∙ rw (rest, from_some sep s (i + n + 1) (omega (arith, length-drop i s)))
    go (no k) =
        parts_last sep l (omega (arith, before_le sep l))
        ∙ rw (take_all n l (omega arith), from_none sep s (i + n + 1) (omega (arith, length-drop i s, before_le sep l)))

-- ---- behind a part that ends at place n

pub from_end : (sep : ℕ) (s : List ℕ) (n : ℕ) → length s ≤ n → parts_from sep s (n + 1) ≡ []
from_end sep s n h = from_none sep s (n + 1) (omega arith)

pub from_rest : (sep : ℕ) (s : List ℕ) (n : ℕ) → n < length s
    → parts_from sep s (n + 1) ≡ parts sep (take (length s - (n + 1)) (drop (n + 1) s))
from_rest sep s n h = from_some sep s (n + 1) (omega arith) ∙ ap (parts sep) (sym (to_end (n + 1) s))
