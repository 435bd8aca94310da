-- A query text read and labelled under a loaded policy.
use Rattle.std.specs.Prelude.{◌≡◌, Result, Ok, Err}
use Rattle.theory.specs.Executable.Label.{labels}
use Rattle.model.specs.declared.Policy.{Policy}
use Rattle.model.specs.declared.Refusal.{Refusal}
use Rattle.query_text.specs.Text.{Reading, refused, accepted}
use Rattle.policy_text.specs.Declared.{Declared}
use Rattle.policy_text.specs.WellFormed.{WellFormed}
use Rattle.policy_text.specs.Policy.{policy_value}
use Rattle.labelling.specs.declared.Labels.{Labels}
use Rattle.labelling.specs.Posed.{labels_value}
use Rattle.labelling.specs.Settled.{settling}

-- p holds what a policy text declares
pub record LoadedTo (p : Policy) (d : Declared) : Type 0 where
  pub policy : p ≡ policy_value d
  pub good : WellFormed d

abbrev pub SomePolicy : Policy → Type 0
SomePolicy p = (d : Declared) × LoadedTo p d

-- the labels of the query, or what turns its text back
unfoldable pub asked_value : Declared → Reading → Result Labels Refusal
unfolding labels_value labels settling
asked_value d (refused n k) = Err (record { number = n; line = k })
asked_value d (accepted Q) = Ok (labels_value (labels d.views Q) (settling d Q))
