-- `best_views`: the best list for the words that each view hits, at no cost.
use mathlib.Core.Path.{sym, subst}
use mathlib.Core.List.{List}
use Prim.Native.Nat.{ℕ, ◌-◌, ◌^◌}
use native.Mathlib.Omega.{arith}
use lib.ListN.{length}
use Rattle.word_list.proofs.Value.{count_is}
use Rattle.hitting.specs.Best.{HoldsBest}
use Rattle.hitting.specs.Table.{Searched}
use Rattle.grants.specs.Searching.{hits_of, no_costs}
use Rattle.grants.proofs.HitWords.{searched}
use Rattle.grants.proofs.searching.best_views.Goals as goal

pub hits_of-hits-requires : goal.hits_of-hits-requires
hits_of-hits-requires c = let (ws, h) = c.requires in omega (arith, h.few, count_is _ ws h.is)

pub best-requires : goal.best-requires
best-requires c =
    let (ws, h) = c.requires in
    subst (λ (k : ℕ). Searched c.hits_of-hits.result no_costs k) (sym (count_is _ ws h.is))
    (subst (λ (l : List ℕ). Searched l no_costs (length ws)) (sym (c.hits_of-hits.ensures ws h.is)) (searched ws h.few h.each))

pub returns : goal.returns
returns c = λ ws e.
    let r = c.best.result in
    subst (λ (k : ℕ). HoldsBest (hits_of ws) no_costs (2 ^ k - 1) r) (count_is _ ws e)
    (subst (λ (h : List ℕ). HoldsBest h no_costs (2 ^ c.args.l.count - 1) r) (c.hits_of-hits.ensures ws e) c.best.ensures)
