-- What an argument says, by the numeral that is read, and the page that follows from it.
use mathlib.Core.Path.{◌≡◌, sym, ap, ◌∙◌}
use mathlib.Core.List.{List}
use Prim.Native.Nat.{ℕ}
use Rattle.text.specs.Value.{numeral_value}
use Rattle.text.specs.declared.Numeral.{Numeral}
use Rattle.label_order.specs.Order.{at_or_below}
use Rattle.mode_compare.specs.Compare.{answer, with_number, compared_with, compare_page}

-- the page that follows from the second argument, and from the first
pub second_read : (x : ℕ) (y : List ℕ) {w v : Numeral} → w ≡ numeral_value y → w ≡ v
    → with_number y v (λ n. answer (at_or_below x n)) ≡ compared_with x y
unfolding compared_with
second_read x y e f = ap (λ (u : Numeral). with_number y u (λ n. answer (at_or_below x n))) (sym f ∙ e)

pub first_read : (x y : List ℕ) {w v : Numeral} → w ≡ numeral_value x → w ≡ v → with_number x v (λ n. compared_with n y) ≡ compare_page x y
unfolding compare_page
first_read x y e f = ap (λ (u : Numeral). with_number x u (λ n. compared_with n y)) (sym f ∙ e)
