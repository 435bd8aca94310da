-- The three rules, on the values of terms.
use mathlib.Core.Path.{◌≡◌, refl, sym, ap, ap₂, ◌∙◌}
use mathlib.Core.Bool.{Bool, true, false, not, ◌&&◌, ◌||◌}
use native.Mathlib.Omega.{arith}
use Rattle.theory.specs.Query.{constant, shown, hidden}
use Rattle.theory.specs.Query.{Term as TheTerm}
use Rattle.theory.specs.Executable.Test.{same, kind}
use Rattle.theory.specs.Executable.Cover.{is_hidden, obeys}
use Rattle.model.specs.Value.{term_value}
use Rattle.model.specs.declared.Term.{Term}

-- ---- the rules by the mark of the view's term

and_false : (a : Bool) → false ≡ (a && false)
and_false true = refl
and_false false = refl

hidden_mark : (x : TheTerm) → (term_value x).mark ≡ 3 → is_hidden x ≡ true
unfolding term_value kind is_hidden
hidden_mark (constant c) m = absurd (omega arith)
hidden_mark (shown n) m = absurd (omega arith)
hidden_mark (hidden n) m = refl

other_hidden : (x : TheTerm) → ((term_value x).mark ≡ 3 → ⊥) → is_hidden x ≡ false
unfolding term_value kind is_hidden
other_hidden (constant c) f = refl
other_hidden (shown n) f = refl
other_hidden (hidden n) f = absurd (f refl)

constant_rule : (t u x y : TheTerm) → (term_value t).mark ≡ 1 → same x t ≡ obeys t u x y
unfolding term_value kind obeys
constant_rule (constant c) u x y m = refl
constant_rule (shown n) u x y m = absurd (omega arith)
constant_rule (hidden n) u x y m = absurd (omega arith)

shown_rule : (t u x y : TheTerm) → (term_value t).mark ≡ 2 → (not (same t u) || same x y) ≡ obeys t u x y
unfolding term_value kind obeys
shown_rule (constant c) u x y m = absurd (omega arith)
shown_rule (shown n) u x y m = refl
shown_rule (hidden n) u x y m = absurd (omega arith)

hidden_rule : (t u x y : TheTerm) → ((term_value t).mark ≡ 1 → ⊥) → ((term_value t).mark ≡ 2 → ⊥)
    → ((not (same t u) || same x y) && (is_hidden x && (not (same x y) || same t u))) ≡ obeys t u x y
unfolding term_value kind obeys
hidden_rule (constant c) u x y f g = absurd (f refl)
hidden_rule (shown n) u x y f g = absurd (g refl)
hidden_rule (hidden n) u x y f g = refl

module _ {v a : Term} (t u x y : TheTerm) (ev : v ≡ term_value t) (ea : a ≡ term_value x) where
  pub at_constant : v.mark ≡ 1 → same x t ≡ obeys t u x y
  at_constant m = constant_rule t u x y (sym (ap (λ (w : Term). w.mark) ev) ∙ m)

  pub at_shown : v.mark ≡ 2 → (not (same t u) || same x y) ≡ obeys t u x y
  at_shown m = shown_rule t u x y (sym (ap (λ (w : Term). w.mark) ev) ∙ m)

  module _ (f : v.mark ≡ 1 → ⊥) (g : v.mark ≡ 2 → ⊥) where
    rule : ((not (same t u) || same x y) && (is_hidden x && (not (same x y) || same t u))) ≡ obeys t u x y
    rule =
        hidden_rule t u x y (λ e. f (ap (λ (w : Term). w.mark) ev ∙ e)) (λ e. g (ap (λ (w : Term). w.mark) ev ∙ e))

    -- the line has no hidden variable there
    pub at_hidden_no : (a.mark ≡ 3 → ⊥) → false ≡ obeys t u x y
    at_hidden_no h =
        and_false (not (same t u) || same x y)
        ∙ rw (other_hidden x (λ e. h (ap (λ (w : Term). w.mark) ea ∙ e))) at rule

    pub at_hidden : a.mark ≡ 3 → ((not (same t u) || same x y) && (not (same x y) || same t u)) ≡ obeys t u x y
    at_hidden m = rw (hidden_mark x (sym (ap (λ (w : Term). w.mark) ea) ∙ m)) at rule

-- ---- answers joined

pub implied : {r p q a b : Bool} → r ≡ (not p || q) → p ≡ a → q ≡ b → r ≡ (not a || b)
implied e f g = e ∙ ap₂ (λ p q. not p || q) f g

pub both_left : {e r : Bool} (i : Bool) → r ≡ e → r ≡ false → r ≡ (e && i)
both_left i f n = n ∙ ap (λ b. b && i) (sym n ∙ f)

pub both_right : {e r i s : Bool} → r ≡ e → r ≡ true → s ≡ i → s ≡ (e && i)
both_right {i = i} f t g = g ∙ ap (λ b. b && i) (sym t ∙ f)
