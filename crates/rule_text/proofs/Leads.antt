-- What stands behind a lead: the bytes of the piece from its length on, where the bytes before are the lead's.
use mathlib.Core.Path.{◌≡◌, refl, ◌∙◌}
use mathlib.Core.Bool.{Bool, true, false, cond, ◌&&◌}
use mathlib.Core.List.{List, [], ◌∷◌}
use mathlib.Core.Option.{none, some}
use Prim.Native.Nat.{ℕ}
use lib.Dec.{eqb}
use lib.ListN.{length, take, drop}
use lib.Pointwise.{pointwise}
use Rattle.rules.specs.Text.{behind}

-- the bytes before are the lead's
abbrev pub led : List ℕ → List ℕ → Bool
led lead l = pointwise eqb (take (length lead) l) lead

behind_is : (lead l : List ℕ) → behind lead l ≡ cond (led lead l) (some (drop (length lead) l)) none
unfolding behind
behind_is [] l = refl
behind_is (b ∷ lead) [] = refl
behind_is (b ∷ lead) (c ∷ l) = go (eqb c b) (behind_is lead l)
  where
    go : (t : Bool) → behind lead l ≡ cond (led lead l) (some (drop (length lead) l)) none
        → cond t (behind lead l) none ≡ cond (t && led lead l) (some (drop (length lead) l)) none
    go true e = e
    go false e = refl

module _ (lead l : List ℕ) where
  pub led_not : led lead l ≡ false → behind lead l ≡ none
  led_not e = behind_is lead l ∙ rw e

  pub led_by : {f : List ℕ} → led lead l ≡ true → f ≡ drop (length lead) l → behind lead l ≡ some f
  led_by e z = behind_is lead l ∙ rw (e, z)
