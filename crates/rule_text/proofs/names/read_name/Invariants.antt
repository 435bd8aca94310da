-- `read_name`: the bytes behind those left are digits, and the key is theirs.
use lib.ListN.{drop}
use Rattle.rule_text.proofs.NameRead.{NameRead}
use Rattle.rule_text.proofs.names.read_name.Given as goal

abbrev pub invariant-loop-c : goal.invariant-loop-c
invariant-loop-c l = NameRead (drop 1 l.field) l.c-iterator.iter.rest.now l.key
