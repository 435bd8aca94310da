-- `open_loaded`: the word of every partition is the session that opening gives.
use mathlib.Core.Path.{ap, ◌∙◌}
use Prim.Native.Nat.{ℕ}
use Rattle.sessions.specs.Opening.{all_open}
use Rattle.sessions.proofs.opening.open_loaded.Goals as goal

pub returns : goal.returns
unfolding all_open
returns c = λ d tables ready. ap (λ (m : ℕ). record { mask = m }) (c.every_partition.ensures ∙ ready.every)
