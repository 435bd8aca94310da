-- Places of a text, and what the inner functions of the pass find there.
use Rattle.std.specs.Prelude.{◌≡◌, Bool, true, false, List, [], ◌∷◌, ◌++◌, ℕ, ◌+◌, ◌^◌, ◌≤◌, ◌<◌, T, length, get_or, take, Option, IfSome}
use Rattle.words.specs.Sets.{meet}
use Rattle.text.specs.Lines.{newline}
use Rattle.text.specs.Names.{table_terms}
use Rattle.text.specs.Numeral.{most_digits, constant_limit, all_digits, digits_after}
use Rattle.text.specs.Print.{decimal}
use Rattle.model.specs.Limits.{most_tables}
use Rattle.scan.specs.declared.numbers.Number.{Number}

-- a place of a text, or the one behind it; the text is no longer than an input may be
pub record PlaceIn (text : List ℕ) (at : ℕ) : Type 0 where
  pub short : length text < 2 ^ 32
  pub within : at ≤ length text

-- these bytes stand from the one place up to the other
pub record Between (text : List ℕ) (at end : ℕ) (bytes : List ℕ) : Type 0 where
  pub within : end ≤ length text
  pub long : end ≡ at + length bytes
  pub are : take end text ≡ take at text ++ bytes

-- where the answer is yes, the names line of a query stands at the place, with its end
abbrev pub NamesAt : List ℕ → ℕ → Bool → Type 0
NamesAt text at r = r ≡ true → Between text at (at + 12) (table_terms ++ newline ∷ [])

-- digits stand between two places, no more than a numeral has, and they stand for the value
pub record DigitsBetween (text : List ℕ) (at end value : ℕ) : Type 0 where
  pub digits : List ℕ
  pub there : Between text at end digits
  pub all : T (all_digits digits)
  pub few : length digits ≤ most_digits
  pub stand : digits_after 0 digits ≡ value

-- "with no leading zero unless it is `0`": from the place up to the end stands the numeral of the value, which is not past every limit
pub record NumeralThere (text : List ℕ) (at : ℕ) (n : Number) : Type 0 where
  pub there : Between text at n.end (decimal n.value)
  pub within : n.value ≤ constant_limit

-- a numeral at the place, or none
abbrev pub NumberAt : List ℕ → ℕ → Option Number → Type 0
NumberAt text at r = IfSome r (λ n. NumeralThere text at n)

-- a numeral that is not 0, as a table's number is, or none
abbrev pub TableAt : List ℕ → ℕ → Option Number → Type 0
TableAt text at r = IfSome r (λ n. NumeralThere text at n × (1 ≤ n.value))

-- a table that there may be has so many columns, one at least
pub record WidthThere (lent : List ℕ) (table width : ℕ) : Type 0 where
  pub some : 1 ≤ width
  pub last : table ≤ most_tables
  pub is : width ≡ get_or lent table 0

-- the columns of such a table, or none
abbrev pub WidthOf : List ℕ → ℕ → Option ℕ → Type 0
WidthOf lent table r = IfSome r (λ width. WidthThere lent table width)

-- a line ends at the place, or it does not
abbrev pub EndAt : List ℕ → ℕ → Option ℕ → Type 0
EndAt text at r = IfSome r (λ end. Between text at end (newline ∷ []))

-- a query with so many lines ends at the place: there is a line, and no variable of these two words has both marks
pub record Ended (count shown hidden at end : ℕ) : Type 0 where
  pub some : count ≡ 0 → ⊥
  pub clear : meet 64 shown hidden ≡ false
  pub here : end ≡ at

abbrev pub TextEnd : ℕ → ℕ → ℕ → ℕ → Option ℕ → Type 0
TextEnd count shown hidden at r = IfSome r (λ end. Ended count shown hidden at end)
