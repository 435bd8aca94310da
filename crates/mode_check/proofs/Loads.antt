-- A policy that loaded is one that some loading gives.
use mathlib.Core.Path.{◌≡◌}
use mathlib.Core.List.{List}
use Prim.Native.Nat.{ℕ}
use Rattle.std.specs.Prelude.{Result, Ok}
use Rattle.model.specs.declared.Policy.{Policy}
use Rattle.model.specs.declared.Refusal.{Refusal}
use Rattle.policy_text.specs.Text.{load, accepted}
use Rattle.validity.specs.Loadable.{Loadable}
use Rattle.load.specs.Value.{loading_value}
use Rattle.run.proofs.Written.{loads_to}

pub loads_loadable : (text : List ℕ) (v : Result Policy Refusal) → v ≡ loading_value (load text) → (p : Policy) → v ≡ Ok p
    → (l : Loadable p) × (load text ≡ accepted l.declared)
loads_loadable text v e p h =
    let (d, a, l) = loads_to text v e p h in (record { text = text; declared = d; loads = a; value = l.policy }, a)
