-- `decide_rows`: 9, or what `answer_rows` says.
use mathlib.Core.Path.{sym, subst, ◌∙◌}
use Rattle.sessions.specs.Deciding.{Gives}
use Rattle.decisions.proofs.Decides.{unfit_is, under_unfit, under_accepted}
use Rattle.decisions.proofs.decide_rows.Goals as goal

pub returns-then-unfit : goal.returns-then-unfit
returns-then-unfit c =
    let every = c.every_partition-every.ensures in
    record {
      rows_decided = λ d t Q text ready g e.
          let unfit = sym (unfit_is ready every _ c.unfit.ensures) ∙ c.if-unfit.true in
          subst (Gives _) (sym (under_unfit d _ _ unfit)) c.refused.ensures;
      lines_len = c.requires.1;
    }

pub returns : goal.returns
returns c =
    record {
      rows_decided = λ d t Q text ready g e.
          let fit = sym (unfit_is ready c.every_partition-every.ensures _ c.unfit.ensures) ∙ c.if-unfit.false in
          subst (Gives _) (sym (under_accepted d _ _ Q fit e)) (c.answer_rows.ensures.rows_answered d t Q ready g);
      lines_len = c.answer_rows.ensures.lines_len;
    }
