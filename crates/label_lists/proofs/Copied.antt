-- Words copied to the head of a buffer, one by one.
use mathlib.Core.Path.{◌≡◌, refl, sym, ap, ◌∙◌}
use mathlib.Core.List.{List, ◌++◌}
use Prim.Native.Nat.{ℕ, suc, ◌+◌, ◌≤◌, ◌<◌}
use native.Mathlib.Omega.{arith}
use lib.ListN.{length, get_or, take, drop, set, length-set}
use lib.Seq.{length-take-le, take-suc, drop-cons, append_snoc, set_at}

-- the first i words before what the buffer held from place i on
abbrev pub Copied : List ℕ → ℕ → List ℕ → List ℕ
Copied words i before = take i words ++ drop i before

module _ (words : List ℕ) (i : ℕ) (before : List ℕ) where
  -- the next word written to its place
  copied_more : i < length words → i < length before → set (Copied words i before) i (get_or words i 0) ≡ Copied words (i + 1) before
  copied_more h g =
      let one : i + 1 ≡ suc i = omega arith in
      ap (λ (l : List ℕ). set (take i words ++ l) i (get_or words i 0)) (drop-cons before i 0 g)
      ∙ set_at (take i words) (get_or before i 0) (drop (suc i) before) (get_or words i 0) i (length-take-le i words (omega arith))
      ∙ sym (append_snoc (take i words) (get_or words i 0) (drop (suc i) before))
      ∙ ap (λ (l : List ℕ). l ++ drop (suc i) before) (sym (take-suc words i 0 h))
      ∙ ap (λ (k : ℕ). take k words ++ drop k before) (sym one)

-- the buffer with the first i words at its head
pub record CopiedTo (words : List ℕ) (i : ℕ) (before out : List ℕ) : Type 0 where
  pub long : length out ≡ length before
  pub are : out ≡ Copied words i before

module _ (words before : List ℕ) where
  pub copied_none : CopiedTo words 0 before before
  copied_none = record { long = refl; are = refl }

  pub copied_next : {i : ℕ} {out : List ℕ} → CopiedTo words i before out → i < length words → i < length before
      → CopiedTo words (i + 1) before (set out i (get_or words i 0))
  copied_next {i} {out} c h g = record {
    long = length-set out i (get_or words i 0) ∙ c.long;
    are = ap (λ (l : List ℕ). set l i (get_or words i 0)) c.are ∙ copied_more words i before h g;
  }

  -- as many as are counted
  pub copied_all : {i n : ℕ} {out : List ℕ} → CopiedTo words i before out → i ≤ n → n ≤ i → out ≡ Copied words n before
  copied_all {i} {n} c h g = let all : i ≡ n = omega (arith, h, g) in c.are ∙ ap (λ (k : ℕ). Copied words k before) all
