-- The replies that hold no value: the number of their word.
use mathlib.Core.Path.{◌≡◌, sym, ap}
use Prim.Native.Nat.{ℕ}
use Rattle.std.proofs.Common.{Option, None, Result, Ok}
use Rattle.model.specs.declared.Refusal.{Refusal}
use Rattle.apart.specs.declared.telling.Telling.{Telling}
use Rattle.apart.specs.declared.telling.Telling.TheVariants.{Settled}
use Rattle.plain_replies.specs.Words.{accepted, settled, none}
use Rattle.plain_replies.specs.Replies.{says, plain_outcome, plain_telling, plain_granting}

pub tag_accepted : (o : Result (Unit {0}) Refusal) → o ≡ Ok tt → says accepted 0 ≡ plain_outcome o
tag_accepted o e = ap plain_outcome (sym e)

pub tag_settled : (t : Result Telling Refusal) → t ≡ Ok Settled → says settled 0 ≡ plain_telling t
tag_settled t e = ap plain_telling (sym e)

pub tag_none : (g : Result (Option ℕ) Refusal) → g ≡ Ok None → says none 0 ≡ plain_granting g
tag_none g e = ap plain_granting (sym e)
