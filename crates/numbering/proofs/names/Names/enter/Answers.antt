-- `enter`: the key is there already, or comes behind the others.
use mathlib.Core.Path.{◌≡◌, sym, ◌∙◌}
use native.Mathlib.Omega.{arith}
use borrow.Author.Rules.{rules}
use lib.ListN.{length}
use Rattle.numbering.specs.Names.{most_names}
use Rattle.numbering.proofs.Search.{any_keys, entered_known, entered_new}
use Rattle.numbering.proofs.names.Names.enter.Goals as goal

pub returns-then-contains : goal.returns-then-contains
returns-then-contains c = entered_known _ _ (sym (any_keys _ c.keys.ensures c.contains.ensures.value) ∙ c.if-contains.true)

pub returns : goal.returns
returns c =
    let long : length c.args.self.now.keys ≡ most_names = search rules in
    entered_new _ _ (omega (arith, c.requires)) (sym (any_keys _ c.keys.ensures c.contains.ensures.value) ∙ c.if-contains.false)
