-- Document 01's own policy loads, and printing gives its text back.
use mathlib.Core.Path.{◌≡◌, refl}
use Rattle.theory.specs.Executable.Test.{same}
use Rattle.policy_text.specs.Text.{accepted, load}
use Rattle.policy_text.specs.Print.{print}
use Rattle.policy_text.specs.Example.{example_text, example_value}

pub example_loads : load example_text ≡ accepted example_value
unfolding load same example_text example_value
example_loads = refl

pub example_prints : print example_value ≡ example_text
unfolding print example_text example_value
example_prints = refl
