-- What is told of the fields behind a number: that they are malformed, that a number of them is past its limit, or that all
-- are within. It tells what is said of the line.
use mathlib.Core.Path.{◌≡◌, sym, ◌∙◌}
use mathlib.Core.Bool.{Bool, true, false, true≢false, false≢true, ◌&&◌, and-false}
use mathlib.Core.Option.{Option, none, some}
use Prim.Native.Nat.{ℕ, ◌≤◌}
use Rattle.text.specs.Numeral.{constant_limit}
use Rattle.text.specs.declared.Numeral.{Numeral}
use Rattle.text.specs.declared.Numeral.TheVariants.{Malformed}
use Rattle.model.specs.Fields.{Numbered}
use Rattle.model.specs.Limits.{up_to}
use Rattle.model.specs.Parsed.{up_to_value}
use Rattle.policy_lines.proofs.Numbered.{NumberRead, nothing_read, numbered_formed, numbered_past, numbered_within}

pub data Told {X : Type 0} (good : X → Bool) (q : Option X) (ok outside : Bool) : Type 0 where
  malformed : q ≡ none → ok ≡ false → Told good q ok outside
  past : (x : X) → q ≡ some x → good x ≡ false → ok ≡ true → outside ≡ true → Told good q ok outside
  within : (x : X) → q ≡ some x → good x ≡ true → ok ≡ true → outside ≡ false → Told good q ok outside

module _ {X : Type 0} {good : X → Bool} {q : Option X} {ok outside : Bool} where
  told_malformed : Told good q ok outside → ok ≡ false → q ≡ none
  told_malformed (malformed e o) z = e
  told_malformed (past x e g o p) z = absurd (true≢false (sym o ∙ z))
  told_malformed (within x e g o p) z = absurd (true≢false (sym o ∙ z))

  told_formed : Told good q ok outside → ok ≡ true → (x : X) × (q ≡ some x)
  told_formed (malformed e o) z = absurd (false≢true (sym o ∙ z))
  told_formed (past x e g o p) z = (x, e)
  told_formed (within x e g o p) z = (x, e)

  told_past : Told good q ok outside → ok ≡ true → outside ≡ true → (x : X) × (q ≡ some x) × (good x ≡ false)
  told_past (malformed e o) z y = absurd (false≢true (sym o ∙ z))
  told_past (past x e g o p) z y = (x, e, g)
  told_past (within x e g o p) z y = absurd (false≢true (sym p ∙ y))

  told_within : Told good q ok outside → ok ≡ true → outside ≡ false → (x : X) × (q ≡ some x) × (good x ≡ true)
  told_within (malformed e o) z y = absurd (false≢true (sym o ∙ z))
  told_within (past x e g o p) z y = absurd (true≢false (sym p ∙ y))
  told_within (within x e g o p) z y = (x, e, g)

module _ {X : Type 0} {good : X → Bool} {l : Option (Numbered X)} {number : Numeral} {q : Option X} {ok outside : Bool}
    (r : NumberRead l number q) (t : Told good q ok outside) (most : ℕ) (small : most ≤ constant_limit) where
  pub entry_malformed : ok ≡ false → l ≡ none
  entry_malformed z = nothing_read r (told_malformed t z)

  pub entry_outside : ok ≡ true → outside ≡ true → (number ≡ Malformed → ⊥)
      → (e : Numbered X) × (l ≡ some e) × ((up_to most e.number && good e.value) ≡ false)
  entry_outside z y f =
      let x = told_past t z y in
      let w = numbered_formed r x.1 f in
      (record { number = w.0; value = x.0 }, w.1, rw (x.2, and-false))

  pub entry_past : {k : ℕ} → ok ≡ true → (number ≡ Malformed → ⊥) → k ≡ up_to_value number most → k ≡ 0
      → (e : Numbered X) × (l ≡ some e) × ((up_to most e.number && good e.value) ≡ false)
  entry_past z f up y =
      let x = told_formed t z in
      let w = numbered_past r most small up x.1 f y in
      (record { number = w.0; value = x.0 }, w.1, rw w.2)

  pub entry_within : {k : ℕ} → ok ≡ true → outside ≡ false → k ≡ up_to_value number most → (k ≡ 0 → ⊥)
      → (x : X) × (q ≡ some x) × (good x ≡ true) × (l ≡ some (record { number = k; value = x })) × ((up_to most k && good x) ≡ true)
  entry_within z y up f =
      let x = told_within t z y in
      let w = numbered_within r most small up x.1 f in
      (x.0, x.1, x.2, w.0, rw (w.1, x.2))
