-- `list_queries`: there are no more queries than codes passed.
use Rattle.std.proofs.Common.{◌≤◌}
use Rattle.test_archives.proofs.family.list_queries.Given as goal

abbrev pub invariant-loop-code : goal.invariant-loop-code
invariant-loop-code l = l.n ≤ l.code
