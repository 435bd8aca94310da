-- Reading a name from its last byte to its second: those passed are digits, and make up the higher bytes of the key.
use mathlib.Core.Path.{◌≡◌, refl, sym, ap, ◌∙◌, subst}
use mathlib.Core.Bool.{true, false, and-false}
use mathlib.Core.List.{List, [], ◌∷◌, ◌++◌, append-nil, append_assoc}
use Prim.Native.Nat.{ℕ, ◌+◌, ◌*◌, ◌^◌, ◌≤◌, ◌<◌}
use native.Mathlib.Nat.{pow-le-pow_right}
use native.Mathlib.Omega.{arith}
use lib.Dec.{T, lit<}
use lib.ListN.{length, length-append}
use borrow.Author.Tests.{le-leb, lt-leb, lt-ltb, le-ltb}
use Rattle.std.specs.Prelude.{Some, None}
use Rattle.text.specs.Numeral.{is_digit, all_digits}
use Rattle.rules.specs.Text.{is_name}
use Rattle.rule_text.specs.Keys.{key, name_value}
use Rattle.rule_text.proofs.Keys.{small_digits, key_bound}

-- ---- fields that are no name

no_name : (letters : ℕ) (l : List ℕ) → is_name letters l ≡ false → None ≡ name_value letters l
unfolding name_value
no_name letters l e = rw e

pub no_byte : (letters : ℕ) (l : List ℕ) → length l ≡ 0 → None ≡ name_value letters l
unfolding is_name
no_byte letters [] e = no_name letters [] refl
no_byte letters (b ∷ l) e = absurd (omega arith)

module _ (letters : ℕ) {f l : List ℕ} {b : ℕ} (e : f ≡ b ∷ l) where
  pub too_long : 4 < length f → None ≡ name_value letters f
  unfolding is_name
  too_long h = rw e (no_name letters (b ∷ l) (rw (lt-leb (length l) 3 (omega (arith, h, ap length e)), and-false, and-false)))

  pub too_low : b < letters → None ≡ name_value letters f
  unfolding is_name
  too_low k = rw e (no_name letters (b ∷ l) (rw (lt-leb letters b k)))

  pub too_high : letters + 26 ≤ b → None ≡ name_value letters f
  unfolding is_name
  too_high k = rw e (no_name letters (b ∷ l) (rw (le-ltb b (letters + 26) k, and-false)))

  pub no_digits : all_digits l ≡ false → None ≡ name_value letters f
  unfolding is_name
  no_digits d = rw e (no_name letters (b ∷ l) (rw (d, and-false)))

  pub name_read : letters ≤ b → b < letters + 26 → length f ≤ 4 → all_digits l ≡ true → {k : ℕ} → k ≡ key l
      → Some (k * 256 + b) ≡ name_value letters f
  unfolding is_name name_value
  name_read p q few d {k} z =
      let value : k * 256 + b ≡ key (b ∷ l) = omega (arith, z) in
      rw (e, le-leb letters b p, lt-ltb b (letters + 26) q, d, le-leb (length l) 3 (omega (arith, few, ap length e))) (ap Some value)

-- ---- the bytes passed

-- those behind the ones that are left are digits, and k is their key
pub record NameRead (l left : List ℕ) (k : ℕ) : Type 0 where
  pub passed : List ℕ
  pub whole : l ≡ left ++ passed
  pub digits : all_digits passed ≡ true
  pub value : k ≡ key passed

pub name_none : (l left : List ℕ) → left ≡ l → NameRead l left 0
unfolding all_digits
name_none l left e = record { passed = []; whole = sym e ∙ sym (append-nil left); digits = refl; value = refl }

-- they are few enough for one byte more
pub name_fits : {l left : List ℕ} {k : ℕ} → NameRead l left k → length l ≤ 3 → k < 256 ^ 3
name_fits {left = left} r few =
    let short : length r.passed ≤ 3 = omega (arith, few, ap length r.whole, length-append left r.passed) in
    let bound = key_bound r.passed (small_digits r.passed (subst T (sym r.digits) tt)) in
    omega (arith, r.value, bound, pow-le-pow_right {n = 256} (lit< tt) short)

module _ (then : List ℕ) (b : ℕ) {l left : List ℕ} {k : ℕ} (r : NameRead l left k) (next : left ≡ then ++ b ∷ []) where
  parted : l ≡ then ++ b ∷ r.passed
  parted = r.whole ∙ ap (λ (m : List ℕ). m ++ r.passed) next ∙ append_assoc then (b ∷ []) r.passed

  pub name_more : is_digit b ≡ true → NameRead l then (k * 256 + b)
  unfolding all_digits
  name_more e = record { passed = b ∷ r.passed; whole = parted; digits = rw e r.digits; value = omega (arith, r.value) }

  pub digit_missing : is_digit b ≡ false → all_digits l ≡ false
  unfolding all_digits
  digit_missing e = rw parted (missing then)
    where
      missing : (m : List ℕ) → all_digits (m ++ b ∷ r.passed) ≡ false
      missing [] = rw e
      missing (c ∷ m) = rw (missing m, and-false)

-- ---- all bytes

module _ {l left : List ℕ} {k : ℕ} (r : NameRead l left k) (end : length left ≡ 0) where
  all_passed : l ≡ r.passed
  all_passed = r.whole ∙ go left end
    where
      go : (m : List ℕ) → length m ≡ 0 → m ++ r.passed ≡ r.passed
      go [] e = refl
      go (c ∷ m) e = absurd (omega arith)

  pub name_all : (all_digits l ≡ true) × (k ≡ key l)
  name_all = (rw all_passed r.digits, r.value ∙ ap key (sym all_passed))
