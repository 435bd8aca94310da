-- Document 01, "a policy value that no loading gives" (8).
use Rattle.std.specs.Prelude.{◌≡◌, List, ℕ}
use Rattle.model.specs.declared.Policy.{Policy}
use Rattle.policy_text.specs.Text.{load, accepted}
use Rattle.policy_text.specs.Declared.{Declared}
use Rattle.policy_text.specs.Policy.{policy_value}

-- some text loads to the value
pub record Loadable (p : Policy) : Type 0 where
  pub text : List ℕ
  pub declared : Declared
  pub loads : load text ≡ accepted declared
  pub value : p ≡ policy_value declared
