-- `unused_term`: a mark and a number whose bits joined are none are both 0.
use mathlib.Core.Path.{ap}
use borrow.Author.Tests.{eqb-true, eq-eqb}
use lib.Bits.{bit_or}
use Rattle.model.specs.Value.{unused_term}
use Rattle.model.specs.declared.Term.{Term}
use Rattle.validity.proofs.Terms.{term_path, none_joined}
use Rattle.validity.proofs.unused_term.Goals as goal

pub returns : goal.returns
unfolding unused_term
returns c = (
  λ e. let none = none_joined _ _ (eqb-true _ 0 e) in term_path none.0 none.1,
  λ h. eq-eqb _ 0 (ap (λ (x : Term). bit_or x.mark x.number) h),
)
