-- A numeral is the decimal digits of its number, and a number of no more digits than a numeral may have is printed as one.
use mathlib.Core.Path.{◌≡◌, refl, sym, ap, ap₂, ◌∙◌}
use mathlib.Core.Logic.{◌↔◌, ⊎_elim, by_cases}
use mathlib.Core.Bool.{Bool, true, false, cond, not, ◌&&◌}
use mathlib.Core.Option.{none, some, some-injective, none-ne-some}
use mathlib.Core.List.Memᴰ
use mathlib.Core.List.{List, [], ◌∷◌, ◌++◌, append-nil, append_assoc, Memᴰ}
use Prim.Native.Nat.{ℕ, zero, suc, ◌+◌, ◌-◌, ◌*◌, ◌^◌, ◌/◌, ◌%◌, ◌≤◌, ◌<◌}
use native.Mathlib.Nat.{not-suc-le-zero, le_refl, zero-add, eq-zero-or-pos, one-le-pow}
use native.Mathlib.Decide.{dec_lt}
use native.Mathlib.Omega.{arith}
use lib.Dec.{T, leb, eqb, le→leb, leb→le, T_not}
use lib.Ieee.Bits.{is_true}
use lib.ListN.{length, length-append}
use mir.Facts.{and_yes, yes_and, or_yes, eqb_yes, yes_eqb}
use borrow.Author.Tests.{ne_eqb, lt-ltb, le-ltb}
use Rattle.text.specs.Numeral.{all_digits, is_digit, leads, is_numeral, most_digits, digits_after, numeral}
use Rattle.text.specs.Print.{digit, digits, decimal}

-- ---- the equations a reader expects

digits_one : (count n : ℕ) → n < 10 → digits (suc count) n ≡ digit n ∷ []
unfolding digits
digits_one count n h = rw (lt-ltb n 10 h)

digits_more : (count n : ℕ) → 10 ≤ n → digits (suc count) n ≡ digits count (n / 10) ++ digit (n % 10) ∷ []
unfolding digits
digits_more count n h = rw (le-ltb n 10 h)

-- two counts that are large enough give the same digits
same_digits : (j k n : ℕ) → n < j → n < k → digits j n ≡ digits k n
same_digits zero k n h g = absurd (not-suc-le-zero h)
same_digits (suc j) zero n h g = absurd (not-suc-le-zero g)
same_digits (suc j) (suc k) n h g =
    by_cases (dec_lt n 10) (λ s. digits_one j n s ∙ sym (digits_one k n s))
    (λ m. digits_more j n (omega arith)
    ∙ ap (λ (l : List ℕ). l ++ digit (n % 10) ∷ []) (same_digits j k (n / 10) (omega arith) (omega arith))
    ∙ sym (digits_more k n (omega arith)))

pub decimal_one : (n : ℕ) → n < 10 → decimal n ≡ digit n ∷ []
unfolding decimal
decimal_one n h = digits_one n n h

pub decimal_more : (n : ℕ) → 10 ≤ n → decimal n ≡ decimal (n / 10) ++ digit (n % 10) ∷ []
unfolding decimal
decimal_more n h =
    digits_more n n h
    ∙ ap (λ (l : List ℕ). l ++ digit (n % 10) ∷ []) (same_digits n (suc (n / 10)) (n / 10) (omega arith) (omega arith))

-- what holds of each digit, and of n where it holds of n without its last digit, holds of every number
by_digits : (P : ℕ → Type 0) → ((n : ℕ) → n < 10 → P n) → ((n : ℕ) → 10 ≤ n → P (n / 10) → P n) → (n : ℕ) → P n
by_digits P one more n = below (suc n) n (le_refl (suc n))
  where
    below : (count n : ℕ) → n < count → P n
    below zero n h = absurd (not-suc-le-zero h)
    below (suc count) n h =
        by_cases (dec_lt n 10) (λ s. one n s) (λ m. more n (omega arith) (below count (n / 10) (omega arith)))

-- ---- the bytes

pub decimal_digits : (n x : ℕ) → Memᴰ x (decimal n) → (48 ≤ x) × (x ≤ 57)
unfolding digit
decimal_digits =
    by_digits (λ n. (x : ℕ) → Memᴰ x (decimal n) → (48 ≤ x) × (x ≤ 57))
    (λ n h x m. let e = Memᴰ.eq_of_singleton (rw (decimal_one n h) at m) in omega arith)
    (λ n h rest x m. ⊎_elim (rest x) (λ k. let e = Memᴰ.eq_of_singleton k in omega arith)
    (Memᴰ.append_cases (decimal (n / 10)) (rw (decimal_more n h) at m)))

all_digits_lem : (l : List ℕ) → ((x : ℕ) → Memᴰ x l → (48 ≤ x) × (x ≤ 57)) → T (all_digits l)
unfolding all_digits is_digit
all_digits_lem [] h = tt
all_digits_lem (b ∷ l) h =
    let k = h b (Memᴰ.head refl) in
    yes_and (is_digit b) (all_digits l) (yes_and (leb 48 b) (leb b 57) (le→leb 48 b k.0) (le→leb b 57 k.1))
    (all_digits_lem l (λ x m. h x (Memᴰ.tail m)))

-- ---- the first digit

no_leading_zero : (n : ℕ) → 1 ≤ n → (b : ℕ) × (l : List ℕ) × (decimal n ≡ b ∷ l) × (49 ≤ b)
unfolding digit
no_leading_zero =
    by_digits (λ n. 1 ≤ n → (b : ℕ) × (l : List ℕ) × (decimal n ≡ b ∷ l) × (49 ≤ b))
    (λ n h p. (digit n, [], decimal_one n h, omega arith))
    (λ n h rest p. let r = rest (omega arith) in
    (r.0, r.1 ++ digit (n % 10) ∷ [], rw (decimal_more n h, r.2), r.3))

leads_decimal : (n : ℕ) → T (leads (decimal n))
unfolding leads digit
leads_decimal n =
    ⊎_elim (λ z. rw (z, decimal_one 0 (omega arith)) tt)
    (λ p. let r = no_leading_zero n p in rw (r.2, ne_eqb r.0 48 (λ e. omega arith)) tt)
    (eq-zero-or-pos n)

-- ---- the length

pub length_one : (n : ℕ) → n < 10 → length (decimal n) ≡ 1
length_one n h = ap length (decimal_one n h)

pub length_more : (n : ℕ) → 10 ≤ n → length (decimal n) ≡ length (decimal (n / 10)) + 1
length_more n h = ap length (decimal_more n h) ∙ length-append (decimal (n / 10)) (digit (n % 10) ∷ [])

pub some_digit : (n : ℕ) → 1 ≤ length (decimal n)
some_digit n = by_cases (dec_lt n 10) (λ s. omega (arith, length_one n s)) (λ g. omega (arith, length_more n (omega arith)))

-- a number has at most k + 1 digits exactly when it is below 10 ^ (k + 1)
pub length_iff : (k n : ℕ) → (n < 10 ^ suc k) ↔ (length (decimal n) ≤ suc k)
length_iff zero n = (
  λ h. omega (arith, length_one n h),
  λ h. by_cases (dec_lt n 10) (λ s. s) (λ m. absurd (omega (arith, length_more n (omega arith), some_digit (n / 10)))),
)
length_iff (suc k) n = (
  λ h. by_cases (dec_lt n 10) (λ s. omega (arith, length_one n s))
      (λ m. omega (arith, length_more n (omega arith), (length_iff k (n / 10)).0 (omega arith))),
  λ h. by_cases (dec_lt n 10) (λ s. omega (arith, one-le-pow (suc k) 10 (omega arith)))
      (λ m. let r = (length_iff k (n / 10)).1 (omega (arith, length_more n (omega arith))) in omega arith),
)

-- "a numeral has up to 20 digits"
digits_iff : (n : ℕ) → (n < 10 ^ most_digits) ↔ (length (decimal n) ≤ most_digits)
digits_iff n = length_iff (most_digits - 1) n

pub decimal_short : (n : ℕ) → n < 10 ^ most_digits → length (decimal n) ≤ most_digits
decimal_short n h = (digits_iff n).0 h

-- ---- the number

pub after_last : (n : ℕ) (l : List ℕ) (b : ℕ) → digits_after n (l ++ b ∷ []) ≡ digits_after n l * 10 + (b - 48)
unfolding digits_after
after_last n [] b = refl
after_last n (c ∷ l) b = after_last (n * 10 + (c - 48)) l b

decimal_value : (n : ℕ) → digits_after 0 (decimal n) ≡ n
unfolding digit digits_after
decimal_value =
    by_digits (λ n. digits_after 0 (decimal n) ≡ n) (λ n h. rw (decimal_one n h) (omega arith))
    (λ n h rest. rw (decimal_more n h, after_last 0 (decimal (n / 10)) (digit (n % 10)), rest) (omega arith))

pub numeral_decimal : (n : ℕ) → n < 10 ^ most_digits → numeral (decimal n) ≡ some n
unfolding numeral is_numeral
numeral_decimal n h = rw (is_true (is_numeral (decimal n)) is, decimal_value n)
  where
    is : T (is_numeral (decimal n))
    is =
        yes_and (all_digits (decimal n)) (leads (decimal n) && leb (length (decimal n)) most_digits)
        (all_digits_lem (decimal n) (decimal_digits n))
        (yes_and (leads (decimal n)) (leb (length (decimal n)) most_digits) (leads_decimal n)
        (le→leb (length (decimal n)) most_digits (decimal_short n h)))

-- ---- digits are the decimal of their number

digit_within : (b : ℕ) → T (is_digit b) → (48 ≤ b) × (b ≤ 57)
unfolding is_digit
digit_within b h = let k = and_yes (leb 48 b) (leb b 57) h in (leb→le 48 b k.0, leb→le b 57 k.1)

one_digit : (b : ℕ) → T (is_digit b) → decimal (b - 48) ≡ b ∷ []
unfolding digit
one_digit b h =
    let k = digit_within b h in
    let same : 48 + (b - 48) ≡ b = omega arith in
    decimal_one (b - 48) (omega arith) ∙ ap (λ (x : ℕ). x ∷ []) same

-- one digit more behind a number that is not 0
next_digit : (n b : ℕ) → 1 ≤ n → T (is_digit b) → decimal (n * 10 + (b - 48)) ≡ decimal n ++ b ∷ []
unfolding digit
next_digit n b p h =
    let k = digit_within b h in
    let front : (n * 10 + (b - 48)) / 10 ≡ n = omega arith in
    let last : 48 + (n * 10 + (b - 48)) % 10 ≡ b = omega arith in
    decimal_more (n * 10 + (b - 48)) (omega arith) ∙ ap₂ (λ (m x : ℕ). decimal m ++ x ∷ []) front last

-- digits behind a number that is not 0
decimal_after : (n : ℕ) (l : List ℕ) → 1 ≤ n → T (all_digits l) → decimal (digits_after n l) ≡ decimal n ++ l
unfolding all_digits digits_after
decimal_after n [] p h = sym (append-nil (decimal n))
decimal_after n (b ∷ l) p h =
    let k = and_yes (is_digit b) (all_digits l) h in
    decimal_after (n * 10 + (b - 48)) l (omega arith) k.1
    ∙ ap (λ (m : List ℕ). m ++ l) (next_digit n b p k.0) ∙ append_assoc (decimal n) (b ∷ []) l

decimal_of_digits : (l : List ℕ) → T (all_digits l) → T (leads l) → l ≡ decimal (digits_after 0 l)
unfolding all_digits leads digits_after
decimal_of_digits [] h f = absurd f
decimal_of_digits (b ∷ []) h f = rw (zero-add (b - 48)) (sym (one_digit b (and_yes (is_digit b) true h).0))
decimal_of_digits (b ∷ c ∷ l) h f =
    let k = and_yes (is_digit b) (all_digits (c ∷ l)) h in
    let d = digit_within b k.0 in
    rw (zero-add (b - 48))
    (sym (decimal_after (b - 48) (c ∷ l) (omega (arith, not_zero)) k.1 ∙ ap (λ (m : List ℕ). m ++ c ∷ l) (one_digit b k.0)))
  where
    not_zero : (b ≡ 48) → ⊥
    not_zero e = ⊎_elim (λ n. T_not (eqb b 48) n (yes_eqb e)) (λ z. let n = eqb_yes {a = suc (length l)} {b = 0} z in omega arith)
        (or_yes (not (eqb b 48)) (eqb (suc (length l)) 0) f)

-- a field is a numeral exactly when it is printed so
pub numeral_iff : (l : List ℕ) (n : ℕ) → (numeral l ≡ some n) ↔ ((n < 10 ^ most_digits) × (l ≡ decimal n))
unfolding numeral is_numeral
numeral_iff l n = (go (is_numeral l) (λ t. t), λ r. rw r.1 (numeral_decimal n r.0))
  where
    go : (t : Bool) → (T t → T (is_numeral l)) → cond t (some (digits_after 0 l)) none ≡ some n → (n < 10 ^ most_digits) × (l ≡ decimal n)
    go true h e =
        let a = and_yes (all_digits l) (leads l && leb (length l) most_digits) (h tt) in
        let b = and_yes (leads l) (leb (length l) most_digits) a.1 in
        let same = decimal_of_digits l a.0 b.0 ∙ ap decimal (some-injective (digits_after 0 l) n e) in
        ((digits_iff n).1 (rw same at (leb→le (length l) most_digits b.1)), same)
    go false h e = absurd (none-ne-some n e)
