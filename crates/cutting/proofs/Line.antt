-- The first line of a text, with the byte that ends it.
use mathlib.Core.Path.{◌≡◌, refl, sym, ap, ◌∙◌}
use mathlib.Core.Bool.{Bool, true, false, cond}
use mathlib.Core.List.{List, [], ◌∷◌, ◌++◌, append_assoc}
use Prim.Native.Nat.{ℕ, suc, ◌+◌, ◌<◌}
use native.Mathlib.Nat.{not-suc-le-zero, le_of_suc-le-suc}
use lib.Dec.{eqb}
use lib.ListN.{length, get_or, take, drop}
use lib.Seq.{take-suc, take-add}
use borrow.Author.Tests.{eqb-true}
use Rattle.text.specs.Lines.{newline, before}
use Rattle.text.proofs.NextLines.{front}

-- the byte that was looked for stands at the place
pub at_before : (b : ℕ) (l : List ℕ) → before b l < length l → get_or l (before b l) 0 ≡ b
unfolding before
at_before b [] h = absurd (not-suc-le-zero h)
at_before b (x ∷ l) h = go (eqb x b) (λ e. eqb-true x b e) h (λ g. at_before b l g)
  where
    go : (t : Bool) → (t ≡ true → x ≡ b) → cond t 0 (suc (before b l)) < suc (length l)
        → (before b l < length l → get_or l (before b l) 0 ≡ b) → get_or (x ∷ l) (cond t 0 (suc (before b l))) 0 ≡ b
    go true e g ih = e refl
    go false e g ih = ih (le_of_suc-le-suc g)

-- the line and its end, as a part of the text
pub line_end : (l : List ℕ) → before newline l < length l → front l ++ newline ∷ [] ≡ take (suc (before newline l)) l
line_end l h =
    sym (take-suc l (before newline l) 0 h ∙ ap (λ (b : ℕ). front l ++ b ∷ []) (at_before newline l h))

-- the same behind the bytes before it
pub with_line : (s : List ℕ) (at : ℕ) → before newline (drop at s) < length (drop at s)
    → take at s ++ front (drop at s) ++ newline ∷ [] ≡ take (at + suc (before newline (drop at s))) s
with_line s at h =
    append_assoc (take at s) (front (drop at s)) (newline ∷ [])
    ∙ ap (λ (l : List ℕ). take at s ++ l) (line_end (drop at s) h)
    ∙ sym (take-add at (suc (before newline (drop at s))) s)
