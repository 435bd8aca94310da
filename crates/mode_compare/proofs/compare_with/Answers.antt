-- `compare_with`: what the argument says, and the page that follows.
use mathlib.Core.Path.{refl, ap, ◌∙◌}
use mathlib.Core.Logic.{inl}
use native.Mathlib.Omega.{arith}
use borrow.Author.Rules.{rules}
use Rattle.text.specs.Names.{bytes}
use Rattle.writing.proofs.Wrote.{wrote_as}
use Rattle.page.specs.Refusal.{query_refused}
use Rattle.mode_compare.specs.Compare.{answer, with_number}
use Rattle.mode_compare.proofs.Arguments.{second_read}
use Rattle.mode_compare.proofs.compare_with.Goals as goal

pub refusal_page-requires : goal.refusal_page-requires
refusal_page-requires c = (omega arith, search rules, inl refl)

pub refusal_page-requires-in-Large : goal.refusal_page-requires-in-Large
refusal_page-requires-in-Large c = (omega arith, search rules, inl refl)

pub returns-in-Malformed : goal.returns-in-Malformed
unfolding with_number query_refused bytes
returns-in-Malformed c =
    wrote_as (second_read _ _ c.read_numeral.ensures c.in-Malformed.is) c.refusal_page.ensures

pub returns-in-Large : goal.returns-in-Large
unfolding with_number query_refused bytes
returns-in-Large c =
    wrote_as (second_read _ _ c.read_numeral.ensures c.in-Large.is) c.refusal_page-in-Large.ensures

pub returns-in-Value : goal.returns-in-Value
unfolding with_number
returns-in-Value c =
    wrote_as (ap answer c.compare_labels.ensures ∙ second_read _ _ c.read_numeral.ensures c.in-Value.is)
    c.put_answer.ensures
