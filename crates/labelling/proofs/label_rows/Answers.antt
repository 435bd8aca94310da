-- `label_rows`: the rows of the query, reduced and shown, are those that are labelled.
use mathlib.Core.Path.{ap, ◌∙◌}
use mathlib.Core.List.{map}
use Rattle.theory.specs.Query.{Query}
use Rattle.theory.specs.Executable.Label.{label, labels, settles}
use Rattle.theory.specs.Executable.Show.{show}
use Rattle.labelling.specs.Posed.{labels_value}
use Rattle.labelling.specs.Settled.{settling, settling_lines}
use Rattle.labelling.proofs.label_rows.Goals as goal

pub shown_rows-left-requires : goal.shown_rows-left-requires
shown_rows-left-requires c = let ((d, t, Q, ready, g), long) = c.requires in ((d, Q, g), long)

pub label_lines-requires : goal.label_lines-requires
label_lines-requires c =
    let rows = c.shown_rows-left.ensures.rows_shown in
    let long = c.shown_rows-left.ensures.lines_len in
    let (d, t, Q, ready, g) = c.requires.0 in
    let s = rows d Q g in ((d, t, Q, s.word, ready, g.count, s.shown), long)

pub returns : goal.returns
unfolding labels settling settling_lines settles
returns c =
    let rows = c.shown_rows-left.ensures.rows_shown in
    let long = c.shown_rows-left.ensures.lines_len in
    record {
      posed_rows_given = λ d t Q ready g.
          let s = rows d Q g in
          c.label_lines.ensures d t Q s.word ready g.count s.shown s.shared
          ∙ ap (λ (R : Query). labels_value (map (label d.views) (show R)) (settling_lines d (show R))) s.reduced;
      lines_len = long;
    }
