-- How a loading ended, by its reply: the policy of a text that declares one, or what turns the text back.
use mathlib.Core.Path.{◌≡◌, refl, sym, ◌∙◌}
use mathlib.Core.List.{List}
use Prim.Native.Nat.{ℕ}
use native.Mathlib.Omega.{arith}
use Rattle.std.specs.Prelude.{Result, Ok, Err}
use Rattle.model.specs.declared.Policy.{Policy}
use Rattle.model.specs.declared.Refusal.{Refusal}
use Rattle.policy_text.specs.Text.{refused, accepted, load}
use Rattle.policy_text.specs.Declared.{Declared as TheDeclared}
use Rattle.policy_text.specs.Text.{Loading as TheLoading}
use Rattle.policy_text.specs.WellFormed.{WellFormed}
use Rattle.policy_text.specs.Policy.{policy_value}
use Rattle.policy_text.proofs.Loaded.{loaded_well_formed}
use Rattle.load.specs.Value.{loading_value}

accepted_loading : (l : TheLoading) (p : Policy) → Ok p ≡ loading_value l → (d : TheDeclared) × (l ≡ accepted d) × (p ≡ policy_value d)
unfolding loading_value
accepted_loading (refused n k) p e = absurd (grind arith)
accepted_loading (accepted d) p e = (d, refl, grind arith)

refused_loading : (l : TheLoading) (r : Refusal) → Err r ≡ loading_value l → l ≡ refused r.number r.line
unfolding loading_value
refused_loading (refused n k) r e = let same : r ≡ record { number = n; line = k } = grind arith in rw same
refused_loading (accepted d) r e = absurd (grind arith)

module _ (text : List ℕ) (v : Result Policy Refusal) (is : v ≡ loading_value (load text)) where
  pub loaded_policy : (p : Policy) → v ≡ Ok p → (d : TheDeclared) × (load text ≡ accepted d) × (p ≡ policy_value d) × WellFormed d
  loaded_policy p e =
      let (d, l, q) = accepted_loading (load text) p (sym e ∙ is) in (d, l, q, loaded_well_formed text d l)

  pub not_loaded : (r : Refusal) → v ≡ Err r → load text ≡ refused r.number r.line
  not_loaded r e = refused_loading (load text) r (sym e ∙ is)
