-- `put_word`: the views of a word, or that there are none.
use mathlib.Core.Path.{◌≡◌, sym, subst}
use Prim.Native.Nat.{ℕ, ◌+◌, ◌≤◌}
use native.Mathlib.Omega.{arith}
use borrow.Author.Rules.{rules}
use lib.ListN.{length, take}
use lib.Seq.{length-take-le}
use Rattle.text.specs.Names.{bytes}
use Rattle.model.specs.Limits.{most_views}
use Rattle.labelling.proofs.Loaded.{loaded_to}
use Rattle.writing.proofs.Wrote.{wrote_as}
use Rattle.page.specs.Numbers.{HoldsViews}
use Rattle.view_texts.specs.ViewTexts.{InRange}
use Rattle.mode_explain.proofs.WordPieces.{views_ranged, no_views, some_views}
use Rattle.mode_explain.proofs.put_word.Goals as goal
use Rattle.mode_explain.proofs.put_word.Goals.{After-views_of-v}

held : (c : After-views_of-v) → HoldsViews c.args.word c.views_of-v.result
held c = subst (λ (w : ℕ). HoldsViews w c.views_of-v.result) c.from.ensures c.views_of-v.ensures

within : (c : After-views_of-v) → c.views_of-v.result.count ≤ length c.views_of-v.result.numbers
within c =
    let long : length c.views_of-v.result.numbers ≡ most_views = search rules in
    omega (arith, long, c.views_of-v.ensures.few)

listed : (c : After-views_of-v) →
    let v = c.views_of-v.result in length (take v.count v.numbers) ≡ v.count
listed c = length-take-le _ _ (within c)

pub returns-then-v-eq0 : goal.returns-then-v-eq0
unfolding bytes
returns-then-v-eq0 c =
    let n : c.put_bytes.result ≡ c.args.at + 11 = c.put_bytes.ensures.next in (
      λ l. wrote_as (no_views l.declared.views (held (goal.at.returns-then-v-eq0 c).After-views_of-v) (within (goal.at.returns-then-v-eq0 c).After-views_of-v) c.if-v-eq0.true) c.put_bytes.ensures,
      omega (arith, n),
    )

pub put_list-requires : goal.put_list-requires
put_list-requires c = (
  omega arith,
  omega (arith, listed (goal.at.put_list-requires c).After-views_of-v, c.views_of-v.ensures.few, c.requires),
  subst InRange (sym (held (goal.at.put_list-requires c).After-views_of-v).are) (views_ranged c.args.word),
)

pub returns : goal.returns
unfolding bytes
returns c = (
  λ l. wrote_as (some_views l.declared.views (held (goal.at.returns c).After-views_of-v) (within (goal.at.returns c).After-views_of-v) c.if-v-eq0.false) (c.put_list.ensures.list_put l.declared (loaded_to l)),
  omega (arith, listed (goal.at.returns c).After-views_of-v, c.views_of-v.ensures.few, c.put_list.ensures.upper_bound.0),
)
