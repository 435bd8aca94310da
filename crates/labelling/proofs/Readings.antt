-- How a reading ended, by its reply, and how labelling did.
use mathlib.Core.Path.{◌≡◌, refl, sym, ◌∙◌}
use Prim.Native.Nat.{ℕ}
use native.Mathlib.Omega.{arith}
use Rattle.std.specs.Prelude.{Result, Ok, Err}
use Rattle.theory.specs.Query.{Query}
use Rattle.theory.specs.Executable.Label.{labels}
use Rattle.model.specs.Value.{query_value}
use Rattle.model.specs.declared.Query.{Query as ReadQuery}
use Rattle.model.specs.declared.Refusal.{Refusal}
use Rattle.query_text.specs.Text.{refused, accepted}
use Rattle.query_text.specs.Text.{Reading as TheReading}
use Rattle.query_text.specs.Value.{reading_value}
use Rattle.policy_text.specs.Declared.{Declared as TheDeclared}
use Rattle.labelling.specs.declared.Labels.{Labels}
use Rattle.labelling.specs.Posed.{labels_value}
use Rattle.labelling.specs.Settled.{settling}
use Rattle.labelling.specs.Text.{asked_value}

accepted_reading : (r : TheReading) (q : ReadQuery) → Ok q ≡ reading_value r → (Q : Query) × (r ≡ accepted Q) × (q ≡ query_value Q)
unfolding reading_value
accepted_reading (refused n k) q e = absurd (grind arith)
accepted_reading (accepted Q) q e = (Q, refl, grind arith)

refused_reading : (r : TheReading) (t : Refusal) → Err t ≡ reading_value r → r ≡ refused t.number t.line
unfolding reading_value
refused_reading (refused n k) t e = let same : t ≡ record { number = n; line = k } = grind arith in rw same
refused_reading (accepted Q) t e = absurd (grind arith)

module _ (r : TheReading) (v : Result ReadQuery Refusal) (is : v ≡ reading_value r) where
  pub read_accepted : (q : ReadQuery) → v ≡ Ok q → (Q : Query) × (r ≡ accepted Q) × (q ≡ query_value Q)
  read_accepted q e = accepted_reading r q (sym e ∙ is)

  pub read_refused : (t : Refusal) → v ≡ Err t → r ≡ refused t.number t.line
  read_refused t e = refused_reading r t (sym e ∙ is)

-- ---- the same of a text that is labelled

accepted_asking : (d : TheDeclared) (r : TheReading) (l : Labels) → Ok l ≡ asked_value d r
    → (Q : Query) × (r ≡ accepted Q) × (l ≡ labels_value (labels d.views Q) (settling d Q))
unfolding asked_value
accepted_asking d (refused n k) l e = absurd (grind arith)
accepted_asking d (accepted Q) l e = (Q, refl, grind arith)

refused_asking : (d : TheDeclared) (r : TheReading) (t : Refusal) → Err t ≡ asked_value d r → r ≡ refused t.number t.line
unfolding asked_value
refused_asking d (refused n k) t e = let same : t ≡ record { number = n; line = k } = grind arith in rw same
refused_asking d (accepted Q) t e = absurd (grind arith)

module _ (d : TheDeclared) (r : TheReading) (v : Result Labels Refusal) (is : v ≡ asked_value d r) where
  pub asked_accepted : (l : Labels) → v ≡ Ok l → (Q : Query) × (r ≡ accepted Q) × (l ≡ labels_value (labels d.views Q) (settling d Q))
  asked_accepted l e = accepted_asking d r l (sym e ∙ is)

  pub asked_refused : (t : Refusal) → v ≡ Err t → r ≡ refused t.number t.line
  asked_refused t e = refused_asking d r t (sym e ∙ is)
