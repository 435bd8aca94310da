-- `no_view`: the line of terms is as blank as the view's.
use mathlib.Core.Path.{ap}
use Rattle.model.specs.declared.Parsed.{Parsed}
use Rattle.policy_lines.specs.Value.{no_view}
use Rattle.policy_lines.proofs.no_view.Goals as goal

pub returns : goal.returns
unfolding no_view
returns c =
    ap (λ (p : Parsed). record { ok = c.args.ok; outside = c.args.ok; number = 0; view = p }) c.blank.ensures
