-- `query`: a store keeps the length.
use Rattle.std.proofs.Common.{◌≡◌, length}
use Rattle.test_grants.proofs.texts.query.Given as goal

abbrev pub invariant-loop-k : goal.invariant-loop-k
invariant-loop-k l = 266 ≡ length l.text
