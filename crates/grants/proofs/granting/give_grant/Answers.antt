-- `give_grant`: `none`, nothing to add, or what is given of the best views for the labels that lack one.
use mathlib.Core.Path.{◌≡◌, sym, ◌∙◌}
use mathlib.Core.List.{List}
use Prim.Native.Nat.{ℕ}
use Rattle.explain.specs.Explanation.{lacking as lacking_views}
use Rattle.label_lists.specs.HoldsLabels.{HoldsLabels}
use Rattle.label_lists.proofs.Asked.{labels_held}
use Rattle.grants.specs.Granting.{some_bare}
use Rattle.grants.specs.Searching.{Lacking}
use Rattle.grants.proofs.Replies.{lacking_count, bare_is, none_best, lacking_some, written_nothing, granted_none, granted_list}
use Rattle.grants.proofs.granting.give_grant.Goals as goal
use Rattle.grants.proofs.granting.give_grant.Goals.{After-has_word, Else-lacking-eq0}

pub lacking_views-lacking-requires : goal.lacking_views-lacking-requires
lacking_views-lacking-requires c = let (ws, h) = c.requires in labels_held h

pub has_word-requires : goal.has_word-requires
has_word-requires c = let (ws, h) = c.requires in lacking_count _ ws h c.lacking_views-lacking.ensures.by_index

-- whether a label is bare, by the words of those that lack a view
bare : (c : After-has_word) (ws : List ℕ) → HoldsLabels c.args.l ws → c.has_word.result ≡ some_bare ws
bare c ws h = bare_is _ ws h c.lacking_views-lacking.ensures.by_index c.has_word.ensures

pub returns-then-has_word : goal.returns-then-has_word
returns-then-has_word c = λ ws h. granted_none (sym c.if-has_word.true ∙ bare (goal.at.returns-then-has_word c).After-has_word ws h)

pub returns-then-lacking-eq0 : goal.returns-then-lacking-eq0
returns-then-lacking-eq0 c = λ ws h.
    granted_list (sym c.if-has_word.false ∙ bare (goal.at.returns-then-lacking-eq0 c).After-has_word ws h)
    (none_best _ ws h c.lacking_views-lacking.ensures.by_index c.if-lacking-eq0.true) (written_nothing _)

-- the words hold views, each of them
lacking : (c : Else-lacking-eq0) (ws : List ℕ) →
    HoldsLabels c.args.l ws → Lacking c.lacking_views-lacking.result (lacking_views c.args.granted ws)
lacking c ws h =
    lacking_some _ ws h c.lacking_views-lacking.ensures.by_index c.has_word.ensures c.if-has_word.false

pub best_views-best-requires : goal.best_views-best-requires
best_views-best-requires c =
    let (ws, h) = c.requires in (_, lacking c ws h)

pub give_numbers-requires : goal.give_numbers-requires
give_numbers-requires c =
    let (ws, h) = c.requires in
    let (added, is, few, best) = c.best_views-best.ensures _ (lacking (goal.at.give_numbers-requires c).Else-lacking-eq0 ws h).is in (added, is, few, best.numbered)

pub returns : goal.returns
returns c = λ ws h.
    let (added, is, few, best) = c.best_views-best.ensures _ (lacking (goal.at.returns c).Else-lacking-eq0 ws h).is in
    granted_list (sym c.if-has_word.false ∙ bare (goal.at.returns c).After-has_word ws h) best (c.give_numbers.ensures added is)
