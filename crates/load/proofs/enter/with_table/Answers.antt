-- `with_table`: the value with one table more.
use Rattle.load.proofs.More.{table_more}
use Rattle.load.proofs.enter.with_table.Goals as goal

pub returns : goal.returns
returns c = λ d e. table_more d c.args.p e c.args.columns c.requires
