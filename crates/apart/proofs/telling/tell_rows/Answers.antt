-- `tell_rows`: no line without a view means settled, and one without means rows that tell the query apart.
use mathlib.Core.Path.{refl}
use Rattle.apart.proofs.SettledLines.{says_settled, odd_line, says_apart}
use Rattle.apart.proofs.TableViews.{partition_low}
use Rattle.apart.proofs.telling.tell_rows.Goals as goal

pub unsettled_line-requires : goal.unsettled_line-requires
unsettled_line-requires c =
    let rows = c.shown_rows-left.ensures.rows_shown in
    let long = c.shown_rows-left.ensures.lines_len in
    let (d, t, ns, Q, a) = c.requires.0 in
    let s = rows d Q a.posed in
    ((d, t, Q, s.word, a.ready, a.posed.count, s.shown), long, partition_low a.ready _ ns a.partition)

pub returns-in_default : goal.returns-in_default
returns-in_default c = λ d t ns Q a.
    let rows = c.shown_rows-left.ensures.rows_shown in
    says_settled a (rows d Q a.posed) c.in_default.ensures _ _ refl

pub put_archives-rows-requires : goal.put_archives-rows-requires
put_archives-rows-requires c =
    let rows = c.shown_rows-left.ensures.rows_shown in
    let long = c.shown_rows-left.ensures.lines_len in
    let ((d, t, ns, Q, a), _, wide) = c.requires in
    ((d, t, ns, Q, odd_line a (rows d Q a.posed) c.in-Some.ensures), long, wide)

pub returns : goal.returns
returns c = λ d t ns Q a.
    let rows = c.shown_rows-left.ensures.rows_shown in
    let s = rows d Q a.posed in
    let u = c.in-Some.ensures in
    says_apart a s u _ _ _ (c.put_archives-rows.ensures d t ns Q (odd_line a s u))
