use Rattle.std.proofs.Common.{rules}
use Rattle.text.proofs.Lines.{before_at}
use Rattle.text.proofs.first.Goals as goal

pub returns : goal.returns
returns c = before_at c.args.s.now (search rules) (search rules) (search rules)
