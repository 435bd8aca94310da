-- `read_arg`: a field that is no name says what its numeral does.
use mathlib.Core.Path.{◌≡◌, sym, ap, ◌∙◌}
use Rattle.rules.specs.Text.{lower, arg_of}
use Rattle.rule_text.specs.Atoms.{arg_field}
use Rattle.rule_text.proofs.Keys.{value_none, value_some}
use Rattle.rule_text.proofs.ArgFields.{variable_read, numbered, numeral_read}
use Rattle.rule_text.proofs.args.read_arg.Goals as goal
use Rattle.rule_text.proofs.args.read_arg.Goals.{After-read_numeral}

pub returns-in-Some : goal.returns-in-Some
returns-in-Some c =
    let w = value_some lower c.args.field.now c.in-Some.key (sym (sym c.in-Some.is ∙ c.read_name.ensures)) in
    rw w.1 (variable_read _ w.0)

-- the field by its numeral
by_numeral : (c : After-read_numeral)
    → numbered c.read_numeral.result ≡ arg_field (arg_of c.args.field.now)
by_numeral c = ap numbered c.read_numeral.ensures ∙ numeral_read _ (value_none lower _ (sym c.read_name.ensures ∙ c.in_default.is))

pub returns-in-Malformed : goal.returns-in-Malformed
returns-in-Malformed c = ap numbered (sym c.in-Malformed.is) ∙ by_numeral (goal.at.returns-in-Malformed c).After-read_numeral

pub returns-in-Large : goal.returns-in-Large
returns-in-Large c = ap numbered (sym c.in-Large.is) ∙ by_numeral (goal.at.returns-in-Large c).After-read_numeral

pub returns-in-Value : goal.returns-in-Value
returns-in-Value c = ap numbered (sym c.in-Value.is) ∙ by_numeral (goal.at.returns-in-Value c).After-read_numeral
