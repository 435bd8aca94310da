-- `with_view`: the value with one view more.
use Rattle.load.proofs.More.{view_more}
use Rattle.load.proofs.enter.with_view.Goals as goal

pub returns : goal.returns
returns c = λ d A e g. view_more d c.args.p e A c.args.v g c.requires
