-- "A numeral has 1 to 10 decimal digits, with no leading zero unless it is `0`." Request 4 lets it have up to 20.
use Rattle.std.specs.Prelude.{Bool, true, false, cond, not, ◌&&◌, ◌||◌, List, [], ◌∷◌, ℕ, ◌+◌, ◌-◌, ◌*◌, leb, eqb, length}
use Rattle.std.proofs.Math.Option.{Option, none, some}

-- request 4, "a numeral has up to 20 digits"
abbrev pub most_digits : ℕ
most_digits = 20

-- request 4, "Constants now go up to 18,446,744,073,709,551,615": no other place of a text allows a larger number
unfoldable pub constant_limit : ℕ
constant_limit = 18_446_744_073_709_551_615

unfoldable pub is_digit : ℕ → Bool
is_digit b = leb 48 b && leb b 57

unfoldable pub all_digits : List ℕ → Bool
unfolding is_digit
all_digits [] = true
all_digits (b ∷ l) = is_digit b && all_digits l

-- no leading zero unless it is `0`
unfoldable pub leads : List ℕ → Bool
leads [] = false
leads (b ∷ l) = not (eqb b 48) || eqb (length l) 0

unfoldable pub is_numeral : List ℕ → Bool
unfolding all_digits leads
is_numeral l = all_digits l && (leads l && leb (length l) most_digits)

-- the number that digits stand for, behind digits that stand for n
unfoldable pub digits_after : ℕ → List ℕ → ℕ
digits_after n [] = n
digits_after n (b ∷ l) = digits_after (n * 10 + (b - 48)) l

unfoldable pub numeral : List ℕ → Option ℕ
unfolding is_numeral digits_after
numeral l = cond (is_numeral l) (some (digits_after 0 l)) none
