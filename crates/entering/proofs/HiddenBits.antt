-- The hidden variables of a line, in its columns and in the terms of its value.
use mathlib.Core.Path.{◌≡◌, refl, sym, ap, ◌∙◌}
use mathlib.Core.Logic.{◌↔◌}
use mathlib.Core.Bool.{Bool, true, false, cond, not}
use Prim.Native.Nat.{ℕ, ◌^◌, ◌≤◌, ◌<◌}
use native.Mathlib.Decide.{ℕ_discrete, dec_lt}
use native.Mathlib.Omega.{arith}
use borrow.Author.Tests.{ne_eqb}
use lib.Dec.{T, eqb, leb, leb→le, le→leb}
use lib.ListN.{length}
use lib.Pow.{pow_pos}
use Rattle.theory.specs.Cover.{at}
use Rattle.theory.specs.Query.{constant, shown, hidden}
use Rattle.theory.specs.Query.{Term as TheTerm, Line as TheLine}
use Rattle.theory.specs.Executable.Test.{kind, number}
use Rattle.theory.proofs.Tuples.{get_d_mem}
use Rattle.theory.proofs.Executable.Test.{and_iff}
use Rattle.words.specs.Bits.{bit}
use Rattle.words.proofs.Bits.{bit_zero}
use Rattle.words.proofs.Masks.{bit_power_same, bit_power_other}
use Rattle.model.specs.Limits.{most_columns, last_variable}
use Rattle.model.specs.Value.{unused_term, term_value, line_value}
use Rattle.model.specs.declared.Term.{Term}
use Rattle.model.specs.Rows.{term_at}
use Rattle.entering.specs.Showing.{SmallLine, hidden_term}
use Rattle.entering.specs.Worded.{HiddenAt}
use Rattle.model.proofs.LineValues.{used, unused}

pub hidden_small : (t : Term) → T (hidden_term t) → t.number ≤ last_variable
unfolding hidden_term
hidden_small t h = omega (arith, leb→le t.number last_variable ((and_iff (eqb t.mark 3) (leb t.number last_variable)).0 h).1)

-- ---- the values of terms

value_hidden : (u : TheTerm) (n : ℕ) → T (hidden_term (term_value u)) → (term_value u).number ≡ n → u ≡ hidden n
unfolding hidden_term term_value kind number
value_hidden (constant c) n h e = absurd h
value_hidden (shown k) n h e = absurd h
value_hidden (hidden k) n h e = ap hidden e

hidden_value : (n : ℕ) → n ≤ last_variable → T (hidden_term (term_value (hidden n)))
unfolding hidden_term term_value kind number
hidden_value n h = le→leb n last_variable (omega arith)

unused_hidden : T (hidden_term unused_term) → ⊥
unfolding hidden_term unused_term
unused_hidden h = h

hidden_number : (n : ℕ) → (term_value (hidden n)).number ≡ n
unfolding term_value kind number
hidden_number n = refl

-- ---- the columns of a line

-- the hidden variable of a column has a bit
small_at : (A : TheLine) → SmallLine A → (n p : ℕ) → HiddenAt A n p → n ≤ last_variable
small_at A small n p h = small n (rw h.is at (get_d_mem A.columns p (constant 0) h.there))

module _ (A : TheLine) (few : length A.columns ≤ most_columns) (p : ℕ) where
  abbrev term : Term
  term = term_at (line_value A) p

  pub at_hidden : T (hidden_term term) → HiddenAt A term.number p
  at_hidden t = go (dec_lt p (length A.columns))
    where
      go : Dec (p < length A.columns) → HiddenAt A term.number p
      go (yes l) = let v = used A few p l in
          record { there = l; is = value_hidden (at A p) term.number (rw v at t) (ap (λ (u : Term). u.number) (sym v)) }
      go (no f) = absurd (unused_hidden (rw (unused A few p (omega arith)) at t))

  pub hidden_at : SmallLine A → (n : ℕ) → HiddenAt A n p → T (hidden_term term) × (term.number ≡ n)
  hidden_at small n h =
      let v : term ≡ term_value (hidden n) = used A few p h.there ∙ ap term_value h.is in
      (rw v (hidden_value n (small_at A small n p h)), rw v (hidden_number n))

-- ---- the bit of a hidden variable

-- no other term has a bit
abbrev pub hidden_bit : Term → ℕ
hidden_bit t = cond (hidden_term t) (2 ^ t.number) 0

if_power : (b : Bool) (k n : ℕ) → bit (cond b (2 ^ k) 0) n ≡ 1 → T b × (k ≡ n)
if_power true k n e = go (ℕ_discrete n k)
  where
    go : Dec (n ≡ k) → T true × (k ≡ n)
    go (yes x) = (tt, sym x)
    go (no f) = absurd (omega (arith, bit_power_other k n f, e))
if_power false k n e = absurd (omega (arith, bit_zero n))

power_if : (b : Bool) (k n : ℕ) → T b → k ≡ n → bit (cond b (2 ^ k) 0) n ≡ 1
power_if true k n t e = rw e (bit_power_same n)
power_if false k n t e = absurd t

some_power : (b : Bool) (k : ℕ) → not (eqb (cond b (2 ^ k) 0) 0) ≡ b
some_power true k = rw (ne_eqb (2 ^ k) 0 (λ e. omega (arith, pow_pos k)))
some_power false k = refl

module _ (A : TheLine) (few : length A.columns ≤ most_columns) (small : SmallLine A) (p : ℕ) where
  abbrev word : ℕ
  word = hidden_bit (term_at (line_value A) p)

  pub bit_hidden : (n : ℕ) → (bit word n ≡ 1) ↔ HiddenAt A n p
  bit_hidden n =
      let t = term_at (line_value A) p in (
        λ e. let (h, k) = if_power (hidden_term t) t.number n e in rw k at (at_hidden A few p h),
        λ h. let (u, k) = hidden_at A few p small n h in power_if (hidden_term t) t.number n u k,
      )

  pub some_hidden : T (not (eqb word 0)) ↔ ((n : ℕ) × HiddenAt A n p)
  some_hidden =
      let t = term_at (line_value A) p in
      rw (some_power (hidden_term t) t.number) (λ h. (t.number, at_hidden A few p h), λ r. (hidden_at A few p small r.0 r.1).0)
