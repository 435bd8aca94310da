use mathlib.Core.Path.{◌≡◌, refl, ap, ◌∙◌, subst}
use mathlib.Core.List.{List}
use Prim.Native.Nat.{ℕ}
use native.Mathlib.Omega.{arith}
use borrow.Author.Rules.{rules}
use borrow.Author.Tests.{tests}
use denote.Ref.{Bor}
use lib.Dec.{eqb}
use Rattle.std.proofs.lemmas.Bool.Decides.{Decides-eqb}
use Rattle.std.proofs.lemmas.Fn.{always_returns_same}
use Rattle.std.proofs.lemmas.Slice.Eq.{strip_suffix_is}
use Rattle.std.specs.Slice.Iter.{split_inclusive_rest}
use Rattle.text.specs.Lines.{newline}
use Rattle.text.proofs.NextLines.{front}
use Rattle.page.proofs.Pieces.{FirstPiece, first_piece, stripped}
use Rattle.mode_rules.specs.Writing.{RuleWritten}
use Rattle.mode_rules.proofs.Progress.{progress_more, progress_all}
use Rattle.mode_rules.proofs.put_rules.Goals as goal
use Rattle.mode_rules.proofs.put_rules.Goals.{In-Some, After-unwrap_or-shown}

cut : (c : In-Some) → FirstPiece (split_inclusive_rest c.loop-rule.rule-iterator) c.in-Some.rule.now (split_inclusive_rest c.next.new.self)
cut c =
    let s = c.in-Some.ensures.steps in
    let m = (s.1.2 (λ x. eqb x newline) (always_returns_same _ _ _ (λ a r f k. search (rules, tests)))).1 in
    first_piece _ s.1.0 m _ _ s.0 s.1.1

-- what is shown is the line without its end
shown : (c : After-unwrap_or-shown) → c.unwrap_or-shown.result.now ≡ front (split_inclusive_rest c.loop-rule.rule-iterator)
shown c =
    ap (λ (x : Bor (List ℕ)). x.now) c.unwrap_or-shown.ensures
    ∙ stripped (cut (goal.at.After-unwrap_or-shown c).In-Some) c.strip_suffix.result c.in-Some.rule refl
    (strip_suffix_is Decides-eqb _ _ _ c.strip_suffix.ensures.cases)

pub loop-rule-preserved : goal.loop-rule-preserved
loop-rule-preserved c =
    let p = c.loop-rule.invariant.2 in
    let s = c.in-Some.ensures.steps in
    let w = c.put_rule-to.ensures in
    let e = shown (goal.at.loop-rule-preserved c).After-unwrap_or-shown in
    let v =
    subst (λ (l : List ℕ). RuleWritten c.args.tables c.loop-rule.k c.in-Some.rule.now l c.loop-rule.out c.loop-rule.to c.put_rule-to.new.out c.put_rule-to.result) e
    w.rule_written in
    (search rules, tt, progress_more p _ _ (cut (goal.at.loop-rule-preserved c).In-Some) s.0 (omega arith) v w.upper_bound (v c.requires.0).size)

pub returns : goal.returns
returns c = progress_all c.loop-rule.invariant.2 c.in-None.ensures.steps.0
