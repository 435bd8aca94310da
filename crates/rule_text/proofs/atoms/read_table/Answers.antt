-- `read_table`: a field without a `T` in front is no table.
use mathlib.Core.Path.{◌∙◌}
use mathlib.Core.List.{[], ◌∷◌}
use Rattle.text.specs.Names.{bytes}
use Rattle.rule_text.proofs.Leads.{led_not, led_by}
use Rattle.rule_text.proofs.AtomRead.{table_other, table_read}
use Rattle.rule_text.proofs.atoms.read_table.Goals as goal

pub returns-in-None : goal.returns-in-None
unfolding bytes
returns-in-None c = table_other c.args.field.now (led_not (84 ∷ []) c.args.field.now c.in-None.ensures.cases)

pub returns-in-Some : goal.returns-in-Some
unfolding bytes
returns-in-Some c =
    c.read_numeral.ensures
    ∙ table_read c.args.field.now (led_by (84 ∷ []) c.args.field.now c.in-Some.ensures.cases.0 c.in-Some.ensures.cases.1)
