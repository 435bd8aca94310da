-- Bytes by the number that they are: eight that make one word are those of no other.
use mathlib.Core.Path.{◌≡◌, refl, sym, ap, ap₂, ◌∙◌}
use mathlib.Core.Logic.{◌↔◌}
use mathlib.Core.List.{List, [], ◌∷◌}
use Prim.Native.Nat.{ℕ, zero, suc, ◌+◌, ◌*◌, ◌≤◌, ◌<◌}
use native.Mathlib.Nat.{not-suc-le-zero, le_of_suc-le-suc}
use native.Mathlib.Decide.{dec_lt}
use native.Mathlib.Omega.{arith}
use lib.ListN.{length, get_or, take, drop, length-drop}
use lib.Seq.{drop-cons, get_or-drop}
use Rattle.little_endian.specs.LittleEndian.{little_endian, eight_at}

-- the lowest byte, and what stands above it
pub lowest_byte : (b c k m : ℕ) → b < 256 → c < 256 → b + 256 * k ≡ c + 256 * m → (b ≡ c) × (k ≡ m)
lowest_byte b c k m p q e = go (dec_lt k m) (dec_lt m k)
  where
    go : Dec (k < m) → Dec (m < k) → (b ≡ c) × (k ≡ m)
    go (yes h) d = absurd (omega (arith, h, e, p, q))
    go (no h) (yes g) = absurd (omega (arith, g, e, p, q))
    go (no h) (no g) = (omega (arith, h, g, e), omega (arith, h, g))

-- each element is a byte
abbrev pub Bytes : List ℕ → Type 0
Bytes l = (k : ℕ) → get_or l k 0 < 256

-- so many bytes that are one number are the same
one_number : (n : ℕ) (l m : List ℕ) → Bytes l → Bytes m → n ≤ length l → n ≤ length m
    → little_endian (take n l) ≡ little_endian (take n m) → take n l ≡ take n m
one_number zero l m p q h k e = refl
one_number (suc n) [] m p q h k e = absurd (not-suc-le-zero h)
one_number (suc n) (b ∷ l) [] p q h k e = absurd (not-suc-le-zero k)
one_number (suc n) (b ∷ l) (c ∷ m) p q h k e =
    let w = lowest_byte b c (little_endian (take n l)) (little_endian (take n m)) (p 0) (q 0) e in
    ap₂ {C = List ℕ} ◌∷◌ w.0 (one_number n l m (λ j. p (suc j)) (λ j. q (suc j)) (le_of_suc-le-suc h) (le_of_suc-le-suc k) w.1)

-- ---- from a place on

module _ (l : List ℕ) where
  bytes_from : Bytes l → (i : ℕ) → Bytes (drop i l)
  bytes_from h i k = rw (get_or-drop i l k 0) (h (i + k))

  one_more : (n i j : ℕ) → j ≡ suc i → i < length l → take (suc n) (drop i l) ≡ get_or l i 0 ∷ take n (drop j l)
  one_more n i j e h = rw (e, drop-cons l i 0 h)

  eight_part : (i : ℕ) → i + 8 ≤ length l → take 8 (drop i l) ≡ eight_at l i
  eight_part i h =
      rw (
        one_more 7 i (i + 1) (omega arith) (omega arith),
        one_more 6 (i + 1) (i + 2) (omega arith) (omega arith),
        one_more 5 (i + 2) (i + 3) (omega arith) (omega arith),
        one_more 4 (i + 3) (i + 4) (omega arith) (omega arith),
        one_more 3 (i + 4) (i + 5) (omega arith) (omega arith),
        one_more 2 (i + 5) (i + 6) (omega arith) (omega arith),
        one_more 1 (i + 6) (i + 7) (omega arith) (omega arith),
        one_more 0 (i + 7) (i + 8) (omega arith) (omega arith),
      )

-- two words are the same number exactly when they have the same bytes
abbrev pub WordIff : List ℕ → List ℕ → ℕ → Type 0
WordIff a b i = (little_endian (eight_at a i) ≡ little_endian (eight_at b i)) ↔ (take 8 (drop i a) ≡ take 8 (drop i b))

pub word_iff : (a b : List ℕ) → Bytes a → Bytes b → (i : ℕ) → i + 8 ≤ length a → i + 8 ≤ length b → WordIff a b i
word_iff a b p q i h k = (
  λ e. one_number 8 (drop i a) (drop i b) (bytes_from a p i) (bytes_from b q i) (rw (length-drop i a) (omega arith))
      (rw (length-drop i b) (omega arith)) (rw (eight_part a i h, eight_part b i k) e),
  λ e. ap little_endian (sym (eight_part a i h) ∙ e ∙ eight_part b i k),
)
