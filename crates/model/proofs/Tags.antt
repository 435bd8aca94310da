-- What a numeral that is no value stands for.
use mathlib.Core.Path.{◌≡◌, sym, ap}
use mathlib.Core.Logic.{◌⊎◌, ⊎_elim}
use Prim.Native.Nat.{ℕ}
use Rattle.text.specs.declared.Numeral.{Numeral}
use Rattle.text.specs.declared.Numeral.TheVariants.{Malformed, Large}
use Rattle.model.specs.Parsed.{up_to_value}

-- the first two variants hold no number
pub tag_numberless : (n : Numeral) (most : ℕ) → (n ≡ Malformed) ⊎ (n ≡ Large) → 0 ≡ up_to_value n most
unfolding up_to_value
tag_numberless n most h =
    ⊎_elim (λ e. ap (λ (m : Numeral). up_to_value m most) (sym e)) (λ e. ap (λ (m : Numeral). up_to_value m most) (sym e)) h
