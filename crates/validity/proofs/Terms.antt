-- A term within its limit, by its mark.
use mathlib.Core.Path.{◌≡◌, refl}
use mathlib.Core.Logic.{by_cases}
use Prim.Native.Nat.{ℕ, ◌≤◌}
use native.Mathlib.Decide.{ℕ_discrete}
use native.Mathlib.Omega.{arith}
use lib.Bits.{bit_or, or_add_and, and_le_l, and_le_r}
use borrow.Author.Tests.{leb-true, ne_eqb}
use lib.Dec.{T, leb, leb→le, le→leb}
use lib.Ieee.Bits.{is_true}
use Rattle.theory.specs.Query.{constant, shown, hidden}
use Rattle.theory.specs.Query.{Term as TheTerm}
use Rattle.theory.specs.Executable.Test.{kind, number}
use Rattle.text.specs.Numeral.{constant_limit}
use Rattle.text.proofs.Numerals.{word_within}
use Rattle.model.specs.Limits.{last_variable, term_within}
use Rattle.model.specs.Marks.{number_within}
use Rattle.model.specs.Value.{term_value}
use Rattle.model.specs.declared.Term.{Term}
use Rattle.validity.specs.Parts.{TermOf}
use Rattle.validity.specs.Entries.{Within}

pub term_path : {t u : Term} → t.mark ≡ u.mark → t.number ≡ u.number → t ≡ u
term_path e f = λ i. record { mark = e i; number = f i }

-- numbers whose bits joined are none are both 0
pub none_joined : (a b : ℕ) → bit_or a b ≡ 0 → (a ≡ 0) × (b ≡ 0)
none_joined a b e = (
  omega (arith, or_add_and a b, and_le_r a b),
  omega (arith, or_add_and a b, and_le_l a b),
)

-- ---- a good term has one of three marks, and a number within the limit of its mark

-- the number of any term but a constant is a bit of a word
pub within_word : (t : Term) → (t.mark ≡ 1 → ⊥) → Within t → t.number ≤ last_variable
unfolding number_within
within_word t f w = leb-true t.number last_variable (rw (ne_eqb t.mark 1 f) at w.small)

variable_most : {n : ℕ} → T (leb n last_variable) → n ≤ constant_limit
variable_most {n} h = word_within n (omega (arith, leb→le n last_variable h))

value_within : (u : TheTerm) → T (term_within u) → (1 ≤ (term_value u).mark) × Within (term_value u)
unfolding term_value kind number term_within number_within
value_within (constant n) h = (omega arith, record { marked = omega arith; most = leb→le n constant_limit h; small = refl })
value_within (shown n) h =
    (omega arith, record { marked = omega arith; most = variable_most h; small = is_true (leb n last_variable) h })
value_within (hidden n) h =
    (omega arith, record { marked = omega arith; most = variable_most h; small = is_true (leb n last_variable) h })

module _ (t : Term) where
  pub good_within : TermOf t → (1 ≤ t.mark) × Within t
  good_within h = rw h.is (value_within h.thing h.good)

  pub within_good : 1 ≤ t.mark → Within t → TermOf t
  unfolding term_value kind number term_within
  within_good some w =
      by_cases (ℕ_discrete t.mark 1)
      (λ e. record { thing = constant t.number; good = le→leb t.number constant_limit w.most; is = term_path e refl })
      (λ f.
      let good = le→leb t.number last_variable (within_word t f w) in
      by_cases (ℕ_discrete t.mark 2) (λ e. record { thing = shown t.number; good = good; is = term_path e refl })
      (λ g. record { thing = hidden t.number; good = good; is = term_path (omega (arith, w.marked)) refl }))
