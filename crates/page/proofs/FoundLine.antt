-- The line of a number, found from the front: what the loop over a text's lines keeps.
use mathlib.Core.Path.{◌≡◌, refl, sym, ap, ◌∙◌, subst}
use mathlib.Core.List.{List, [], ◌∷◌}
use Prim.Native.Nat.{ℕ, zero, suc, ◌-◌, ◌≤◌, ◌<◌}
use native.Mathlib.Decide.{dec_lt}
use native.Mathlib.Nat.{not-suc-le-zero}
use native.Mathlib.Omega.{arith}
use lib.ListN.{length}
use lib.Seq.{take_all}
use Rattle.text.specs.Lines.{newline, lines, split, before}
use Rattle.text.proofs.Lines.{before_le}
use Rattle.text.proofs.NextLines.{front, back, of_tail, of_line}
use Rattle.writing.specs.Wrote.{Wrote}
use Rattle.writing.proofs.Wrote.{wrote_as, wrote_none}
use Rattle.page.specs.Refusal.{indented, numbered, line_below}
use Rattle.page.proofs.Pieces.{FirstPiece}

-- ---- the lines of a text

pub below_zero : (text : List ℕ) → line_below text 0 ≡ []
unfolding line_below numbered
below_zero text = refl

below_none : (k : ℕ) → line_below [] k ≡ []
unfolding line_below numbered lines split
below_none zero = refl
below_none (suc k) = refl

below_first : (text : List ℕ) → 0 < length text → line_below text 1 ≡ indented (front text)
unfolding line_below numbered
below_first [] h = absurd (not-suc-le-zero h)
below_first (b ∷ l) h = go (dec_lt (before newline (b ∷ l)) (length (b ∷ l)))
  where
    go : Dec (before newline (b ∷ l) < length (b ∷ l))
        → numbered 1 (lines (b ∷ l)).ended (lines (b ∷ l)).rest ≡ indented (front (b ∷ l))
    go (yes e) = of_line (numbered 1) (b ∷ l) e
    go (no e) =
        let n : before newline (b ∷ l) ≡ length (b ∷ l) = omega (arith, before_le newline (b ∷ l)) in
        of_tail (numbered 1) (b ∷ l) n ∙ ap indented (sym (take_all (before newline (b ∷ l)) (b ∷ l) (omega arith)))

below_other : (text : List ℕ) (k : ℕ) → before newline text < length text → line_below text (suc (suc k)) ≡ line_below (back text) (suc k)
unfolding line_below numbered
below_other text k h = of_line (numbered (suc (suc k))) text h

below_past : (text : List ℕ) (k : ℕ) → before newline text ≡ length text → line_below text (suc (suc k)) ≡ []
unfolding line_below numbered
below_past [] k h = below_none (suc (suc k))
below_past (b ∷ l) k h = of_tail (numbered (suc (suc k))) (b ∷ l) h

-- ---- the loop

pub below_nothing : (text : List ℕ) (k : ℕ) → length text ≡ 0 → [] ≡ line_below text k
below_nothing [] k e = sym (below_none k)
below_nothing (b ∷ l) k e = absurd (omega arith)

pub below_here : (text : List ℕ) (left : ℕ) → 0 < length text → left ≡ 1 → indented (front text) ≡ line_below text left
below_here text left h e = sym (below_first text h) ∙ ap (line_below text) (sym e)

pub below_next : {text piece rest : List ℕ} (left : ℕ) → FirstPiece text piece rest → 1 ≤ left → (left ≡ 1 → ⊥)
    → line_below rest (left - 1) ≡ line_below text left
below_next {text} {rest = rest} left f some other = go (dec_lt (before newline text) (length text))
  where
    two : left ≡ suc (suc (left - 2))
    two = omega arith

    one : left - 1 ≡ suc (left - 2)
    one = omega arith

    go : Dec (before newline text < length text) → line_below rest (left - 1) ≡ line_below text left
    go (yes h) =
        rw ((f.ended h).1, one) (sym (below_other text (left - 2) h)) ∙ ap (line_below text) (sym two)
    go (no h) =
        let e : before newline text ≡ length text = omega (arith, before_le newline text) in
        rw (f.tail e).1 (below_none (left - 1)) ∙ sym (below_past text (left - 2) e) ∙ ap (line_below text) (sym two)

-- ---- written from a buffer that is as it was

pub wrote_from : {a b c l : List ℕ} {at r : ℕ} → b ≡ a → Wrote b at l c r → Wrote a at l c r
wrote_from {c = c} {l} {at} {r} e w = subst (λ (x : List ℕ). Wrote x at l c r) e w

pub wrote_nothing : {a b l : List ℕ} {at : ℕ} → b ≡ a → [] ≡ l → Wrote a at l b at
wrote_nothing {at = at} e n = wrote_from e (wrote_as n (wrote_none _ at))
