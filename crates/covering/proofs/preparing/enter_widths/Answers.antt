-- `enter_widths`: the columns are copied between what is before them and what is behind them.
use borrow.Author.Rules.{rules}
use Rattle.covering.proofs.Prepared.{widths_copied}
use Rattle.covering.proofs.preparing.enter_widths.Goals as goal

pub returns : goal.returns
returns c = rw c.copy_from_slice.ensures.after (widths_copied c.args.columns c.args.ready.now (search rules) c.requires)
