-- `shown_rows`: the lines left are the reduced query, and the rows are shown by the word of the variables that these share.
use mathlib.Core.Path.{◌∙◌}
use Rattle.labelling.proofs.Lines.{rows_given, rows_shown}
use Rattle.labelling.proofs.shown_rows.Goals as goal
use Rattle.labelling.proofs.shown_rows.Goals.{After-lines_left-left, Start}

-- where the call starts
abbrev start : After-lines_left-left → Start
start c = (goal.at.After-lines_left-left c).Start

pub returns : goal.returns
returns c =
    let shown = c.show.ensures in
    let entered = c.enter_query.ensures.worded in
    record {
      rows_shown = λ d Q g.
          let worded = entered Q g.count g.laid g.small in
          record {
            word = _;
            shown = rows_shown _ g shown;
            shared = c.shared-shared.ensures Q g.count worded;
            reduced = c.lines_left-left.ensures Q (rows_given g worded);
          };
      lines_len = shown.long ∙ (start (goal.at.returns c).After-lines_left-left).requires.1;
    }
