-- `enter_used`: the mark is one of the marks, the number is within its limit, and then its bit is set.
use mathlib.Core.Path.{refl, sym, ◌∙◌}
use mathlib.Core.Bool.{true, false≢true}
use native.Mathlib.Omega.{arith}
use Rattle.words.proofs.Answers.{yes_iff}
use Rattle.text.proofs.Numerals.{word_within}
use Rattle.validity.specs.Entries.{entered}
use Rattle.validity.proofs.Entries.{not_entering}
use Rattle.validity.proofs.enter_used.Goals as goal

pub returns-then-t-gt-HIDDEN : goal.returns-then-t-gt-HIDDEN
returns-then-t-gt-HIDDEN c = not_entering true _ _ (λ w. omega (arith, w.marked, c.if-t-gt-HIDDEN.true))

pub returns-then-not-within : goal.returns-then-not-within
returns-then-not-within c = not_entering true _ _ (λ w. false≢true (sym c.if-not-within.true ∙ c.within.ensures ∙ w.small))

pub returns : goal.returns
unfolding entered
returns c =
    record {
      right =
          yes_iff
          (record {
            marked = omega (arith, c.if-t-gt-HIDDEN.false);
            most = word_within _ (omega arith);
            small = sym c.within.ensures ∙ c.if-not-within.false;
          });
      done = λ e. rw (← c.set_bit.ensures) refl;
    }
