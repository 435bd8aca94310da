-- The labels that hold no granted view, one by one.
use mathlib.Core.Path.{◌≡◌, refl, ap, ◌∙◌}
use mathlib.Core.Bool.{Bool, true, false, cond, not, ◌&&◌, ◌||◌}
use mathlib.Core.List.{List, [], ◌∷◌, map}
use Prim.Native.Nat.{ℕ}
use Rattle.theory.specs.Executable.Test.{any}
use Rattle.labelling.specs.Settled.{holds_one}
use Rattle.explain.specs.Explanation.{views_of, keep, lacking}

-- ---- one label more in front

lacking_more : (b : Bool) (w : ℕ) (l : List ℕ) → map views_of (cond b (w ∷ l) l) ≡ cond b (views_of w ∷ map views_of l) (map views_of l)
lacking_more true w l = refl
lacking_more false w l = refl

module _ (f : ℕ → Bool) where
  any_cond : (b : Bool) (v : ℕ) (l : List ℕ) → any f (cond b (v ∷ l) l) ≡ (b && f v || any f l)
  unfolding any
  any_cond true v l = refl
  any_cond false v l = refl

  keep_cond : (b : Bool) (v : ℕ) (l : List ℕ) → keep f (cond b (v ∷ l) l) ≡ cond (b && f v) (v ∷ keep f l) (keep f l)
  unfolding keep
  keep_cond true v l = refl
  keep_cond false v l = refl

module _ (granted : ℕ) (f : ℕ → Bool) where
  -- the views of a label pass, and hold no granted view
  abbrev pub passes : ℕ → Bool
  passes w = not (holds_one granted w) && f (views_of w)

  pub any_lacking : (ws : List ℕ) → any f (lacking granted ws) ≡ any passes ws
  unfolding any lacking
  any_lacking [] = refl
  any_lacking (w ∷ ws) =
      ap (any f) (lacking_more (not (holds_one granted w)) w (keep (λ x. not (holds_one granted x)) ws))
      ∙ any_cond f (not (holds_one granted w)) (views_of w) (lacking granted ws)
      ∙ ap (λ (b : Bool). passes w || b) (any_lacking ws)

  pub keep_lacking : (w : ℕ) (ws : List ℕ) →
      let l = keep f (lacking granted ws) in
      keep f (lacking granted (w ∷ ws)) ≡ cond (passes w) (views_of w ∷ l) l
  unfolding lacking
  keep_lacking w ws =
      ap (keep f) (lacking_more (not (holds_one granted w)) w (keep (λ x. not (holds_one granted x)) ws))
      ∙ keep_cond f (not (holds_one granted w)) (views_of w) (lacking granted ws)
