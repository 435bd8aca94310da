-- What the steps of reading a term give: its mark, whether its number is within the limit, and the terms with it behind them.
use Rattle.std.specs.Prelude.{◌≡◌, Bool, cond, ◌||◌, List, [], ◌∷◌, ◌++◌, ℕ, ◌+◌, leb, eqb}
use Rattle.theory.specs.Query.{Term as TheTerm}
use Rattle.words.specs.Sets.{set_bit}
use Rattle.model.specs.Limits.{last_variable}
use Rattle.model.specs.Value.{term_value}
use Rattle.model.specs.Parsed.{good_value}
use Rattle.model.specs.Fields.{constant_byte, shown_byte, hidden_byte}
use Rattle.model.specs.declared.Term.{Term}
use Rattle.model.specs.declared.Parsed.{Parsed}

-- `#` has mark 1, `!` 2 and `?` 3; any other byte is no mark
unfoldable pub mark_of : ℕ → ℕ
mark_of b = cond (eqb b constant_byte) 1 (cond (eqb b shown_byte) 2 (cond (eqb b hidden_byte) 3 0))

-- whether a term may have a number that is not past every limit: a constant any, a variable none past the last
unfoldable pub number_within : ℕ → ℕ → Bool
number_within mark n = eqb mark 1 || leb n last_variable

-- a word with the bit of the term's number set, where the term has the mark
unfoldable pub with_mark : ℕ → ℕ → Term → ℕ
unfolding set_bit
with_mark mark m t = cond (eqb t.mark mark) (set_bit m t.number) m

-- r holds the terms of p and t behind them
pub record Behind (p : Parsed) (t : Term) (r : Parsed) : Type 0 where
  pub count : r.count ≡ p.count + 1
  pub terms : (ts : List TheTerm) (u : TheTerm) → p ≡ good_value 0 ts → t ≡ term_value u → r ≡ good_value 0 (ts ++ u ∷ [])
