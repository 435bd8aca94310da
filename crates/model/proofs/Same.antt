-- Values are the same where their terms are, and the test of two values says whether they are one.
use mathlib.Core.Path.{◌≡◌, refl, ap, ap₂, ◌∙◌}
use mathlib.Core.Logic.{◌↔◌}
use lib.Dec.{T, eqb}
use mir.Facts.{eqb_yes, yes_eqb}
use Rattle.theory.proofs.Executable.Test.{and_iff}
use Rattle.theory.specs.Query.{constant, shown, hidden}
use Rattle.theory.specs.Query.{Term as TheTerm}
use Rattle.theory.specs.Executable.Test.{kind, number, same}
use Rattle.model.specs.Value.{term_value, same_term}
use Rattle.model.specs.declared.Term.{Term}

pub same_value : (t u : TheTerm) → same_term (term_value t) (term_value u) ≡ same t u
unfolding same_term term_value same kind number
same_value (constant c) (constant d) = refl
same_value (constant c) (shown n) = refl
same_value (constant c) (hidden n) = refl
same_value (shown n) (constant d) = refl
same_value (shown n) (shown k) = refl
same_value (shown n) (hidden k) = refl
same_value (hidden n) (constant d) = refl
same_value (hidden n) (shown k) = refl
same_value (hidden n) (hidden k) = refl

pub same_held : {t u : Term} (x y : TheTerm) → t ≡ term_value x → u ≡ term_value y → same_term t u ≡ same x y
same_held x y e f = ap₂ same_term e f ∙ same_value x y

-- the test of two terms says whether they are one
pub same_term_iff : (t u : Term) → T (same_term t u) ↔ (t ≡ u)
unfolding same_term
same_term_iff t u =
    let k = and_iff (eqb t.mark u.mark) (eqb t.number u.number) in (
      λ h. let (x, y) = k.0 h in
          let m = eqb_yes x in
          let n = eqb_yes y in λ i. record { mark = m i; number = n i },
      λ e. k.1 (yes_eqb (ap (λ (x : Term). x.mark) e), yes_eqb (ap (λ (x : Term). x.number) e)),
    )
