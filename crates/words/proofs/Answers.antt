-- What an answer of a test says of what it was asked.
use mathlib.Core.Path.{◌≡◌, refl, sym, subst, ◌∙◌}
use mathlib.Core.Logic.{◌↔◌}
use mathlib.Core.Bool.{Bool, true, false, cond, not, ◌&&◌, false≢true}
use lib.Dec.{T}
use borrow.Author.Tests.{not-true, not-false}

-- ---- an equation, and what holds

pub true_holds : {b : Bool} → b ≡ true → T b
true_holds e = subst T (sym e) tt

pub holds_true : (b : Bool) → T b → true ≡ b
holds_true true h = refl
holds_true false h = absurd h

pub fails_false : (b : Bool) → (T b → ⊥) → false ≡ b
fails_false true f = absurd (f tt)
fails_false false f = refl

pub true_iff : {b : Bool} {P : Type 0} → (b ≡ true) ↔ P → T b ↔ P
true_iff {b} h = (λ t. h.0 (sym (holds_true b t)), λ p. true_holds (h.1 p))

-- two tests that are true together are equal
pub same_answer : (a b : Bool) → (a ≡ true → b ≡ true) → (b ≡ true → a ≡ true) → a ≡ b
same_answer true b f g = sym (f refl)
same_answer false true f g = g refl
same_answer false false f g = refl

-- two tests that are true together are each true
pub both_true : (a b : Bool) → (a && b) ≡ true → (a ≡ true) × (b ≡ true)
both_true true b e = (refl, e)
both_true false b e = absurd (false≢true e)

-- what holds in both cases holds
pub either : {X : Type 0} (P : X → Type 0) (b : Bool) {x y : X} → P x → P y → P (cond b x y)
either P true p q = p
either P false p q = q

-- ---- the answer yes to what holds, and no to what does not

pub yes_iff : {P : Type 0} → P → (true ≡ true) ↔ P
yes_iff p = (λ e. p, λ q. refl)

pub no_iff : {P : Type 0} → (P → ⊥) → (false ≡ true) ↔ P
no_iff n = (λ e. absurd (false≢true e), λ p. absurd (n p))

-- ---- behind `not`

pub failing : {r b : Bool} → r ≡ b → not r ≡ true → b ≡ false
failing {r} e f = sym e ∙ not-true r f

pub passing : {r b : Bool} → r ≡ b → not r ≡ false → b ≡ true
passing {r} e f = sym e ∙ not-false r f

pub passes : {b : Bool} {P : Type 0} → (b ≡ true) ↔ P → not b ≡ false → P
passes {b} h e = h.0 (not-false b e)

pub fails : {b : Bool} {P : Type 0} → (b ≡ true) ↔ P → not b ≡ true → P → ⊥
fails {b} h e p = false≢true (sym (not-true b e) ∙ h.1 p)
