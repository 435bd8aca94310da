-- A list of calls on a fresh session under a loaded policy: which partitions are open, and what each call says.
use mathlib.Core.Path.{◌≡◌, sym, ap, subst, ◌∙◌}
use mathlib.Core.List.{List, [], ◌∷◌, ◌++◌, append_assoc, append-nil, head-eq_of_cons-eq, tail-eq_of_cons-eq, nil≢cons}
use Prim.Native.Nat.{ℕ}
use native.Mathlib.Omega.{arith}
use Rattle.model.specs.declared.Policy.{Policy}
use Rattle.policy_text.specs.Text.{refused, accepted, load}
use Rattle.policy_text.specs.Declared.{Declared}
use Rattle.policy_text.specs.Policy.{policy_value}
use Rattle.validity.specs.Loadable.{Loadable}
use Rattle.load.specs.Value.{loading_value}
use Rattle.labelling.proofs.Loaded.{loaded_to}
use Rattle.sessions.specs.declared.opening.Session.{Session}
use Rattle.desk.specs.Calls.{Call, Calls, none_left, one_call}
use Rattle.desk.specs.Demands.{Right}
use Rattle.desk.proofs.Held.{Held, held_step}
use Rattle.desk.proofs.Steps.{steps, counted, step_right}

module _ (p : Policy) (l : Loadable p) where
  abbrev d : Declared
  d = l.declared

  -- what is claimed of each of the calls behind those before
  abbrev AllRight : (before cs : List Call) → Type 0
  AllRight before cs = (b : List Call) (c : Call) (a : List Call) → cs ≡ b ++ c ∷ a → Right d (before ++ b) c

  none_right : (before : List Call) → AllRight before []
  none_right before [] c a e = absurd (nil≢cons e)
  none_right before (x ∷ b) c a e = absurd (nil≢cons e)

  one_right : (before : List Call) (x : Call) (cs : List Call) → Right d before x → AllRight (before ++ x ∷ []) cs
      → AllRight before (x ∷ cs)
  one_right before x cs r rest [] c a e =
      subst (λ (y : Call). Right d (before ++ []) y) (head-eq_of_cons-eq e)
      (subst (λ (b : List Call). Right d b x) (sym (append-nil before)) r)
  one_right before x cs r rest (y ∷ b) c a e =
      subst (λ (z : List Call). Right d z c)
      (append_assoc before (x ∷ []) b ∙ ap (λ (z : Call). before ++ z ∷ b) (head-eq_of_cons-eq e)) (rest b c a (tail-eq_of_cons-eq e))

  pub chain : (before : List Call) {s t : Session} {cs : List Call} → Held d before s.mask → Calls p s cs t
      → Held d (before ++ cs) t.mask × AllRight before cs
  chain before {s = s} h none_left = (subst (λ (b : List Call). Held d b s.mask) (sym (append-nil before)) h, none_right before)
  chain before {s = s} {t = t} h (one_call {cs = cs} c g rest) =
      let good = (loaded_to l).good in
      let step = steps d s c h (g.loaded l) in
      let (held, right) = chain (before ++ c ∷ []) (held_step d good h step) rest in (
        subst (λ (b : List Call). Held d b t.mask) (append_assoc before (c ∷ []) cs) held,
        one_right before c cs (step_right d good c h step (counted d s c (g.loaded l))) right,
      )
