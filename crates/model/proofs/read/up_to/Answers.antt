-- `up_to`: a number that is not large is compared with the most.
use borrow.Author.Tests.{le-leb, lt-leb}
use Rattle.model.specs.Parsed.{up_to_value}
use Rattle.model.proofs.Tags.{tag_numberless}
use Rattle.model.proofs.read.up_to.Goals as goal

pub returns-then-t-most : goal.returns-then-t-most
unfolding up_to_value
returns-then-t-most c = rw (c.in-Value.is, le-leb _ _ c.if-t-most.true)

pub returns-else-t-most : goal.returns-else-t-most
unfolding up_to_value
returns-else-t-most c = rw (c.in-Value.is, lt-leb _ _ c.if-t-most.false)

pub returns-in-Malformed : goal.returns-in-Malformed
returns-in-Malformed c = tag_numberless c.args.n c.args.most c.in-Malformed.is
