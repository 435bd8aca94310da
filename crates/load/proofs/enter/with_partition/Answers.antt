-- `with_partition`: the value with one partition more.
use borrow.Author.Rules.{rules}
use Rattle.load.proofs.More.{partition_more}
use Rattle.load.proofs.enter.with_partition.Goals as goal

pub returns : goal.returns
returns c = λ d vs e g.
    partition_more d c.args.p e vs c.args.views _ g (search rules) c.granting-granted.ensures
