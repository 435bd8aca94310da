-- The page of `check`, from the pieces that it is written in and the policy that is loaded.
use mathlib.Core.Path.{◌≡◌}
use mathlib.Core.List.{List, [], ◌∷◌, ◌++◌, append_assoc, append-nil}
use Prim.Native.Nat.{ℕ}
use Rattle.text.specs.Lines.{space, newline}
use Rattle.text.specs.Names.{bytes}
use Rattle.text.specs.Print.{decimal}
use Rattle.model.specs.declared.Policy.{Policy}
use Rattle.policy_text.specs.Declared.{Declared}
use Rattle.policy_text.specs.Text.{load, refused, accepted}
use Rattle.policy_text.specs.Policy.{policy_value}
use Rattle.model.specs.Value.{tables_value}
use Rattle.writing.specs.Wrote.{Wrote}
use Rattle.writing.proofs.Wrote.{wrote_as, wrote_more}
use Rattle.page.specs.Numbers.{spaced_numbers}
use Rattle.page.specs.Refusal.{policy_refused}
use Rattle.page.proofs.Refused.{cons_append}
use Rattle.mode_check.specs.Check.{counted, checked, check_page}

joined : (said a b c : List ℕ)
    → (((said ++ space ∷ a) ++ space ∷ b) ++ space ∷ c) ++ newline ∷ []
    ≡ said ++ (space ∷ (a ++ space ∷ (b ++ space ∷ (c ++ [])))) ++ newline ∷ []
joined said a b c = simp (append_assoc, cons_append, append-nil)

-- the pieces of the line
pub wrote_counts : (tables views partitions : ℕ) {o₀ o₁ o₂ o₃ o₄ o₅ : List ℕ} {at a b c d r : ℕ}
    → Wrote o₀ at (bytes "policy accepted") o₁ a → Wrote o₁ a (space ∷ decimal tables) o₂ b → Wrote o₂ b (space ∷ decimal views) o₃ c
    → Wrote o₃ c (space ∷ decimal partitions) o₄ d → Wrote o₄ d (newline ∷ []) o₅ r
    → Wrote o₀ at (counted (tables ∷ views ∷ partitions ∷ [])) o₅ r
unfolding counted spaced_numbers
wrote_counts tables views partitions s t u v w =
    wrote_as (joined (bytes "policy accepted") (decimal tables) (decimal views) (decimal partitions))
    (wrote_more (wrote_more (wrote_more (wrote_more s t) u) v) w)

-- ---- how loading ended

pub page_refused : (policy : List ℕ) (n k : ℕ) → load policy ≡ refused n k → policy_refused policy n k ≡ check_page policy
unfolding check_page checked
page_refused policy n k e = rw e

pub page_accepted : (policy : List ℕ) (p : Policy) (d : Declared) → load policy ≡ accepted d → p ≡ policy_value d
    → counted (p.tables.count ∷ p.view_count ∷ p.partition_count ∷ []) ≡ check_page policy
unfolding check_page checked policy_value tables_value
page_accepted policy p d e v = rw (e, v)
