-- `import_rule`: 8 where no text loads to the policy, else the rule under its tables.
use Rattle.words.proofs.Answers.{passes, fails}
use Rattle.import.proofs.Replies.{not_loaded, under_policy}
use mathlib.Core.Path.{ap}
use mathlib.Core.Bool.{not}
use Rattle.import.proofs.importing.import_rule.Goals as goal

pub returns-then-not-valid : goal.returns-then-not-valid
returns-then-not-valid c = not_loaded _ _ _ _ (fails c.valid.ensures (ap not c.if-not-valid.true))

pub returns : goal.returns
returns c =
    under_policy _ _ _ _ (passes c.valid.ensures (ap not c.if-not-valid.false)) _ _ c.import_checked.ensures.rule_given
