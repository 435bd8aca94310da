-- `answer_rows`: what `answer` says of the open partitions that settle the query.
use mathlib.Core.Path.{ap, subst, ◌∙◌}
use Prim.Native.Nat.{ℕ}
use lib.Bits.{bit_and}
use Rattle.labelling.specs.Posed.{labels_value}
use Rattle.labelling.specs.declared.Labels.{Labels}
use Rattle.sessions.specs.Deciding.{answered, Gives}
use Rattle.decisions.proofs.Decides.{left_open}
use Rattle.decisions.proofs.answer_rows.Goals as goal

pub returns : goal.returns
unfolding labels_value
returns c =
    let s = c.args.s in
    record {
      rows_answered = λ d t Q ready g.
          let left = ap (λ (l : Labels). bit_and s.mask l.settling) (c.label_rows-l.ensures.posed_rows_given d t Q ready g) ∙ left_open d Q s.mask in
          subst (λ (m : ℕ). Gives c.answer.result (answered s m)) left c.answer.ensures;
      lines_len = c.label_rows-l.ensures.lines_len;
    }
