-- The explanations worked out by hand, by one computation over the definitions.
use mathlib.Core.Path.{◌≡◌, refl}
use mathlib.Core.List.{map}
use Rattle.explain.specs.Worked.{Worked, worked, explanation}

pub worked_explanations : map (λ (e : Worked). explanation e.views e.partition e.query) worked
    ≡ map (λ (e : Worked). e.should) worked
unfolding worked explanation
worked_explanations = refl
