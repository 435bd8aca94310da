-- `obeys`: each answer is that of the rule at hand.
use mathlib.Core.Path.{◌≡◌, ◌∙◌}
use mathlib.Core.Bool.{not, ◌&&◌, ◌||◌}
use Rattle.theory.specs.Query.{Term as TheTerm}
use Rattle.theory.specs.Executable.Test.{same}
use Rattle.theory.specs.Executable.Cover.{obeys}
use Rattle.model.specs.Value.{term_value}
use Rattle.model.proofs.Same.{same_held}
use Rattle.covering.proofs.Rules.{at_constant, at_shown, at_hidden_no, at_hidden, implied, both_left, both_right}
use Rattle.covering.proofs.obeys.Goals as goal
use Rattle.covering.proofs.obeys.Goals.{After-implies-equals, Else-a-ne-HIDDEN}

module _ (t u x y : TheTerm) where
  equals : (c : After-implies-equals)
      → (let a = c.args in
      a.v ≡ term_value t → a.w ≡ term_value u → a.a ≡ term_value x → a.b ≡ term_value y
      → c.implies-equals.result ≡ (not (same t u) || same x y))
  equals c ev ew ea eb =
      implied c.implies-equals.ensures (c.same_term-2.ensures ∙ same_held t u ev ew)
      (c.same_term-3.ensures ∙ same_held x y ea eb)

  rules : (c : Else-a-ne-HIDDEN)
      → (let a = c.args in
      a.v ≡ term_value t → a.a ≡ term_value x
      → ((not (same t u) || same x y) && (not (same x y) || same t u)) ≡ obeys t u x y)
  rules c ev ea =
      at_hidden t u x y ev ea c.if-v-eq-CONSTANT.false
      c.if-v-eq-SHOWN.false c.if-a-ne-HIDDEN.false

pub returns-then-v-eq-CONSTANT : goal.returns-then-v-eq-CONSTANT
returns-then-v-eq-CONSTANT c t u x y ev ew ea eb = c.same_term.ensures ∙ same_held x t ea ev ∙ at_constant t u x y ev ea c.if-v-eq-CONSTANT.true

pub returns-then-v-eq-SHOWN : goal.returns-then-v-eq-SHOWN
returns-then-v-eq-SHOWN c t u x y ev ew ea eb =
    equals t u x y (goal.at.returns-then-v-eq-SHOWN c).After-implies-equals ev ew ea eb ∙ at_shown t u x y ev ea c.if-v-eq-SHOWN.true

pub returns-then-a-ne-HIDDEN : goal.returns-then-a-ne-HIDDEN
returns-then-a-ne-HIDDEN c t u x y ev ew ea eb =
    at_hidden_no t u x y ev ea c.if-v-eq-CONSTANT.false
    c.if-v-eq-SHOWN.false c.if-a-ne-HIDDEN.true

pub returns-then-equals : goal.returns-then-equals
returns-then-equals c t u x y ev ew ea eb =
    both_right (equals t u x y (goal.at.returns-then-equals c).After-implies-equals ev ew ea eb) c.if-equals.true
    (implied c.implies.ensures (c.same_term-then-equals.ensures ∙ same_held x y ea eb)
    (c.same_term-then-equals-2.ensures ∙ same_held t u ev ew))
    ∙ rules t u x y (goal.at.returns-then-equals c).Else-a-ne-HIDDEN ev ea

pub returns-else-equals : goal.returns-else-equals
returns-else-equals c t u x y ev ew ea eb =
    both_left (not (same x y) || same t u) (equals t u x y (goal.at.returns-else-equals c).After-implies-equals ev ew ea eb)
    c.if-equals.false
    ∙ rules t u x y (goal.at.returns-else-equals c).Else-a-ne-HIDDEN ev ea
