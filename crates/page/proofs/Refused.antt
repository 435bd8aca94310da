-- The page of a refusal, from the pieces that it is written in.
use mathlib.Core.Path.{◌≡◌, refl}
use mathlib.Core.List.{List, [], ◌∷◌, ◌++◌, append_assoc}
use Prim.Native.Nat.{ℕ}
use Rattle.text.specs.Lines.{space, newline}
use Rattle.text.specs.Print.{decimal}
use Rattle.writing.specs.Wrote.{Wrote}
use Rattle.writing.proofs.Wrote.{wrote_as, wrote_more}
use Rattle.page.specs.Refusal.{line_below, refusal}

pub cons_append : (b : ℕ) (l m : List ℕ) → ◌++◌ (b ∷ l) m ≡ b ∷ (l ++ m)
cons_append b l m = refl

joined : (said n k l : List ℕ)
    → ((said ++ (n ++ space ∷ [])) ++ (k ++ newline ∷ [])) ++ l ≡ said ++ n ++ space ∷ k ++ newline ∷ l
joined said n k l = simp (append_assoc, cons_append)

pub wrote_refusal : (text : List ℕ) (number line : ℕ) {o₀ o₁ o₂ o₃ o₄ said : List ℕ} {at a b c r : ℕ} → Wrote o₀ at said o₁ a
    → Wrote o₁ a (decimal number ++ space ∷ []) o₂ b → Wrote o₂ b (decimal line ++ newline ∷ []) o₃ c
    → Wrote o₃ c (line_below text line) o₄ r → Wrote o₀ at (refusal said text number line) o₄ r
unfolding refusal
wrote_refusal text number line {said = said} u v w x =
    wrote_as (joined said (decimal number) (decimal line) (line_below text line)) (wrote_more (wrote_more (wrote_more u v) w) x)
