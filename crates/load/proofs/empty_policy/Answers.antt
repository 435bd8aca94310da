-- `empty_policy`: the value of nothing declared.
use mathlib.Core.Path.{refl}
use Rattle.model.specs.Value.{pad, tables_value, unused_line, unused_term}
use Rattle.policy_text.specs.Text.{nothing}
use Rattle.policy_text.specs.Policy.{policy_value, grants_of}
use Rattle.words.specs.TestBits.{test_bits, up_from}
use Rattle.load.proofs.empty_policy.Goals as goal

pub returns : goal.returns
unfolding policy_value tables_value pad unused_line unused_term nothing grants_of test_bits up_from
returns c = refl
