-- What loading gives, as the code's value: document 01, "Loading".
use Rattle.std.specs.Prelude.{Result, Ok, Err}
use Rattle.model.specs.declared.Policy.{Policy}
use Rattle.model.specs.declared.Refusal.{Refusal}
use Rattle.policy_text.specs.Text.{refused, accepted}
use Rattle.policy_text.specs.Text.{Loading as TheLoading}
use Rattle.policy_text.specs.Policy.{policy_value}

-- the policy, or what turns the text back, beside which there is none
unfoldable pub loading_value : TheLoading → Result Policy Refusal
unfolding policy_value
loading_value (refused n k) = Err (record { number = n; line = k })
loading_value (accepted d) = Ok (policy_value d)
