use mathlib.Core.Path.{refl, sym, ap, ◌∙◌}
use native.Mathlib.Omega.{arith}
use borrow.Author.Rules.{rules}
use borrow.Author.Tests.{tests}
use Prim.Native.Nat.{ℕ}
use denote.Ref.{Bor}
use mathlib.Core.List.{List}
use lib.Dec.{eqb}
use lib.ListN.{length, length-append}
use Rattle.std.proofs.lemmas.Bool.Decides.{Decides-eqb}
use Rattle.std.proofs.lemmas.Fn.{always_returns_same}
use Rattle.std.proofs.lemmas.Slice.Eq.{strip_suffix_is}
use Rattle.std.specs.Slice.Iter.{split_inclusive_rest}
use Rattle.text.specs.Lines.{newline}
use Rattle.writing.proofs.Wrote.{wrote_as}
use Rattle.page.specs.Refusal.{indented}
use Rattle.page.proofs.Pieces.{FirstPiece, first_piece, stripped}
use Rattle.page.proofs.FoundLine.{below_zero, below_nothing, below_here, below_next, wrote_from, wrote_nothing}
use Rattle.page.proofs.below.put_below.Goals as goal
use Rattle.page.proofs.below.put_below.Goals.{In-Some}

pub returns-then-line-eq0 : goal.returns-then-line-eq0
returns-then-line-eq0 c =
    wrote_nothing refl (sym (rw c.if-line-eq0.true (below_zero _)))

cut : (c : In-Some) → FirstPiece (split_inclusive_rest c.loop-piece.piece-iterator) c.in-Some.piece.now (split_inclusive_rest c.next.new.self)
cut c =
    let s = c.in-Some.ensures.steps in
    let m = (s.1.2 (λ x. eqb x newline) (always_returns_same _ _ _ (λ a r f k. search (rules, tests)))).1 in
    first_piece _ s.1.0 m _ _ s.0 s.1.1

pub returns-then-left-eq1 : goal.returns-then-left-eq1
returns-then-left-eq1 c =
    let f = cut (goal.at.returns-then-left-eq1 c).In-Some in
    let s = c.in-Some.ensures.steps in
    let said = strip_suffix_is Decides-eqb _ _ _ c.strip_suffix.ensures.cases in
    let is = ap (λ (x : Bor (List ℕ)). indented x.now) c.unwrap_or.ensures ∙ ap indented (stripped f c.strip_suffix.result c.in-Some.piece refl said) ∙ below_here _ _ s.2 c.if-left-eq1.true ∙ c.loop-piece.invariant.4 in
    wrote_from c.loop-piece.invariant.5 (wrote_as is c.put_indented.ensures)

pub loop-piece-preserved : goal.loop-piece-preserved
loop-piece-preserved c =
    let inv = c.loop-piece.invariant in
    let f = cut (goal.at.loop-piece-preserved c).In-Some in
    let s = c.in-Some.ensures.steps in
    (search rules, tt, omega (arith, ap length s.0, length-append {A = ℕ}, inv.2), omega (arith, inv.3), below_next _ f inv.3 c.if-left-eq1.false ∙ inv.4, inv.5)

pub returns : goal.returns
returns c =
    let inv = c.loop-piece.invariant in
    wrote_nothing inv.5 (below_nothing _ _ c.in-None.ensures.steps.0 ∙ inv.4)
