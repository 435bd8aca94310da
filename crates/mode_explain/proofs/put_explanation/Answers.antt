-- `put_explanation`: whether it is settled, and the words.
use mathlib.Core.Path.{ap}
use mathlib.Core.List.{List}
use Prim.Native.Nat.{ℕ}
use denote.Ref.{Bor}
use Rattle.text.specs.Names.{bytes}
use Rattle.writing.proofs.Wrote.{wrote_as}
use Rattle.mode_explain.proofs.WordPieces.{wrote_explanation}
use Rattle.mode_explain.proofs.put_explanation.Goals as goal
use Rattle.mode_explain.proofs.put_explanation.Goals.{then-settled, else-settled}

pub returns : goal.returns
unfolding bytes
returns c =
    λ l.
    elim c.if-settled.branch [
      | then-settled w ↦
          wrote_explanation l.declared.views _ _ {said = bytes "settled"} (rw w.if-settled.true)
          (wrote_as (ap (λ (x : Bor (List ℕ)). x.now) w.said-is) c.put_bytes-a.ensures) (c.put_words.ensures l)
      | else-settled w ↦
          wrote_explanation l.declared.views _ _ {said = bytes "not settled"} (rw w.if-settled.false)
          (wrote_as (ap (λ (x : Bor (List ℕ)). x.now) w.said-is) c.put_bytes-a.ensures) (c.put_words.ensures l)
    ]
