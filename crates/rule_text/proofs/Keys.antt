-- Names and their keys: the bytes of a name are from 48 to 122, so its key has no byte that is 0, four at most, and is that of no
-- other name.
use mathlib.Core.Path.{◌≡◌, refl, sym, ap, ap₂, subst}
use mathlib.Core.Logic.{⊎_elim}
use mathlib.Core.Bool.{Bool, true, false, cond, ◌&&◌}
use mathlib.Core.List.Memᴰ
use mathlib.Core.List.{List, [], ◌∷◌}
use Prim.Native.Nat.{ℕ, ◌+◌, ◌^◌, ◌≤◌, ◌<◌}
use native.Mathlib.Nat.{pow-suc, pow-le-pow_right}
use native.Mathlib.Omega.{arith}
use lib.Dec.{T, leb, ltb, eqb, leb→le, ltb→lt, eqb→eq, eqb_refl, lit<}
use lib.ListN.{length}
use mir.Facts.{and_yes}
use Rattle.std.specs.Prelude.{Option, Some, None}
use Rattle.std.specs.Option.{unwrap_or}
use Rattle.std.proofs.lemmas.Option.{none-some}
use Rattle.theory.specs.Query.{◌∈◌}
use Rattle.theory.proofs.Executable.Test.{same_test}
use Rattle.little_endian.proofs.LittleEndian.{lowest_byte}
use Rattle.text.specs.Lines.{same_bytes}
use Rattle.text.specs.Numeral.{is_digit, all_digits}
use Rattle.text.proofs.Names.{same_bytes_iff}
use Rattle.rules.specs.Text.{is_name, lower}
use Rattle.rule_text.specs.Keys.{key, name_value}

-- ---- the bytes of a name

-- each byte is among those from the first digit to the last letter
abbrev pub Small : List ℕ → Type 0
Small l = (b : ℕ) → b ∈ l → (48 ≤ b) × (b ≤ 122)

small_more : (b : ℕ) (l : List ℕ) → (48 ≤ b) × (b ≤ 122) → Small l → Small (b ∷ l)
small_more b l h s c m =
    ⊎_elim (λ e. subst (λ (x : ℕ). (48 ≤ x) × (x ≤ 122)) (sym e) h) (λ t. s c t) (Memᴰ.cases_cons m)

pub small_digits : (l : List ℕ) → T (all_digits l) → Small l
unfolding all_digits is_digit
small_digits [] h = λ b m. absurd (Memᴰ.not-nil m)
small_digits (c ∷ l) h =
    let w = and_yes (is_digit c) (all_digits l) h in
    let d = and_yes (leb 48 c) (leb c 57) w.0 in
    small_more c l (leb→le 48 c d.0, omega (arith, leb→le c 57 d.1)) (small_digits l w.1)

-- a letter, and up to three digits
pub record Letter (letters b : ℕ) (l : List ℕ) : Type 0 where
  pub from : letters ≤ b
  pub below : b < letters + 26
  pub digits : T (all_digits l)
  pub few : length l ≤ 3

pub name_letter : (letters b : ℕ) (l : List ℕ) → T (is_name letters (b ∷ l)) → Letter letters b l
unfolding is_name
name_letter letters b l h =
    let w = and_yes (leb letters b && ltb b (letters + 26)) (all_digits l && leb (length l) 3) h in
    let x = and_yes (leb letters b) (ltb b (letters + 26)) w.0 in
    let y = and_yes (all_digits l) (leb (length l) 3) w.1 in
    record {
      from = leb→le letters b x.0;
      below = ltb→lt b (letters + 26) x.1;
      digits = y.0;
      few = leb→le (length l) 3 y.1;
    }

-- ---- keys

pub key_bound : (l : List ℕ) → Small l → key l < 256 ^ length l
key_bound [] s = lit< tt
key_bound (b ∷ l) s =
    let h = key_bound l (λ c m. s c (Memᴰ.tail m)) in
    let k = s b (Memᴰ.head refl) in
    rw (pow-suc 256 (length l)) (omega (arith, h, k))

-- a key that has no more than four bytes
pub key_fits : (l : List ℕ) → Small l → length l ≤ 4 → key l < 2 ^ 32
key_fits l s h = omega (arith, key_bound l s, pow-le-pow_right {n = 256} (lit< tt) h)

one : (x y : List ℕ) → Small x → Small y → key x ≡ key y → x ≡ y
one [] [] s t e = refl
one [] (c ∷ y) s t e = absurd (omega (arith, e, t c (Memᴰ.head refl)))
one (b ∷ x) [] s t e = absurd (omega (arith, e, s b (Memᴰ.head refl)))
one (b ∷ x) (c ∷ y) s t e =
    let w = lowest_byte b c (key x) (key y) (omega (arith, s b (Memᴰ.head refl))) (omega (arith, t c (Memᴰ.head refl))) e in
    ap₂ {C = List ℕ} ◌∷◌ w.0 (one x y (λ d m. s d (Memᴰ.tail m)) (λ d m. t d (Memᴰ.tail m)) w.1)

-- ---- the keys of names

-- upper-case letters, lower-case ones, or others from the first digit on
module _ (letters : ℕ) (first : 48 ≤ letters) (last : letters ≤ lower) where
  pub name_small : (l : List ℕ) → T (is_name letters l) → Small l
  unfolding is_name
  name_small [] h = absurd h
  name_small (b ∷ l) h =
      let w = name_letter letters b l h in
      small_more b l (omega (arith, w.from, first), omega (arith, w.below, last)) (small_digits l w.digits)

  pub name_key_fits : (l : List ℕ) → T (is_name letters l) → key l < 2 ^ 32
  unfolding is_name
  name_key_fits [] h = absurd h
  name_key_fits (b ∷ l) h = key_fits (b ∷ l) (name_small (b ∷ l) h) (omega (arith, (name_letter letters b l h).few))

  pub key_one : (x y : List ℕ) → T (is_name letters x) → T (is_name letters y) → key x ≡ key y → x ≡ y
  key_one x y s t e = one x y (name_small x s) (name_small y t) e

  pub same_key : (x y : List ℕ) → T (is_name letters x) → T (is_name letters y) → eqb (key x) (key y) ≡ same_bytes x y
  same_key x y s t =
      same_test (eqb (key x) (key y)) (same_bytes x y) (λ h. (same_bytes_iff x y).1 (key_one x y s t (eqb→eq (key x) (key y) h)))
      (λ h. subst (λ (z : List ℕ). T (eqb (key x) (key z))) ((same_bytes_iff x y).0 h) (eqb_refl (key x)))

-- ---- whether there is a name, by the value

pub value_none : (letters : ℕ) (l : List ℕ) → name_value letters l ≡ None → is_name letters l ≡ false
unfolding name_value
value_none letters l e = go (is_name letters l) e
  where
    go : (t : Bool) → cond t (Some (key l)) None ≡ None → t ≡ false
    go true e = absurd (none-some (key l) (sym e))
    go false e = refl

pub value_some : (letters : ℕ) (l : List ℕ) (k : ℕ) → name_value letters l ≡ Some k → (is_name letters l ≡ true) × (k ≡ key l)
unfolding name_value
value_some letters l k e = go (is_name letters l) e
  where
    go : (t : Bool) → cond t (Some (key l)) None ≡ Some k → (t ≡ true) × (k ≡ key l)
    go true e = (refl, ap (λ (o : Option ℕ). unwrap_or o 0) (sym e))
    go false e = absurd (none-some k e)
