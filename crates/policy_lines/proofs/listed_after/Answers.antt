-- `listed_after`: behind the last field there is none.
use mathlib.Core.List.{List}
use mathlib.Core.Path.{sym, ap, ◌∙◌}
use Prim.Native.Nat.{ℕ}
use Rattle.text.specs.Lines.{space, fields}
use Rattle.text.specs.Numeral.{numeral}
use Rattle.text.proofs.PartsFrom.{from_end, from_rest}
use Rattle.model.specs.Fields.{every}
use Rattle.policy_lines.specs.Value.{view_list_value}
use Rattle.policy_lines.proofs.ViewsRead.{none_said}
use Rattle.policy_lines.proofs.listed_after.Goals as goal

pub returns-then-n-line : goal.returns-then-n-line
unfolding fields
returns-then-n-line c =
    c.read_views.ensures
    ∙ ap (λ (fs : List (List ℕ)). view_list_value (every numeral fs)) (sym (from_rest space _ _ c.if-n-line.true))

pub returns : goal.returns
returns c =
    c.none_listed.ensures ∙ none_said
    ∙ ap (λ (fs : List (List ℕ)). view_list_value (every numeral fs)) (sym (from_end space _ _ c.if-n-line.false))
