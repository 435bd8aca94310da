-- What the steps of reading a line give, as the code's values.
use Rattle.std.specs.Prelude.{Bool, true, false, cond, List, [], ◌∷◌, ℕ, leb, length, replicate}
use Rattle.std.proofs.Math.Option.{Option, none, some}
use Rattle.theory.specs.Query.{constant, shown, hidden}
use Rattle.theory.specs.Query.{Term as TheTerm, Line as TheLine}
use Rattle.theory.specs.Executable.Test.{all}
use Rattle.words.specs.Sets.{set_bit}
use Rattle.text.specs.declared.Numeral.{Numeral}
use Rattle.text.specs.declared.Numeral.TheVariants.{Malformed, Large, Value}
use Rattle.model.specs.Limits.{most_columns, line_within, term_within}
use Rattle.model.specs.Value.{unused_term, term_value, terms_value}
use Rattle.model.specs.declared.Parsed.{Parsed}
use Rattle.model.specs.declared.Field.{Field}
use Rattle.model.specs.declared.Field.TheVariants.{Malformed as MalformedField, Outside, Within}

unfoldable pub field_value : Option TheTerm → Field
unfolding term_within term_value
field_value none = MalformedField
field_value (some t) = cond (term_within t) (Within (term_value t)) Outside

-- a word with the bit of a shown variable set, or of a hidden one
unfoldable pub with_shown : ℕ → TheTerm → ℕ
unfolding set_bit
with_shown m (constant c) = m
with_shown m (shown n) = set_bit m n
with_shown m (hidden n) = m

unfoldable pub with_hidden : ℕ → TheTerm → ℕ
unfolding set_bit
with_hidden m (constant c) = m
with_hidden m (shown n) = m
with_hidden m (hidden n) = set_bit m n

-- the word m with the bits of the terms set that `add` sets
unfoldable pub bits_of : (ℕ → TheTerm → ℕ) → ℕ → List TheTerm → ℕ
bits_of add m [] = m
bits_of add m (t ∷ ts) = bits_of add (add m t) ts

-- a line of which no more is said than that it is malformed (ok is false), or that a number of it is past its limit
unfoldable pub blank_value : Bool → Bool → Parsed
unfolding unused_term
blank_value ok outside =
    record { ok = ok; outside = outside; table = 0; count = 0; terms = replicate most_columns unused_term; shown = 0; hidden = 0 }

-- a line within the limits: its table, its terms (the first are kept, as many as a table may have columns), and its variables as bits
unfoldable pub good_value : ℕ → List TheTerm → Parsed
unfolding terms_value bits_of with_shown with_hidden
good_value table ts =
    record {
      ok = true;
      outside = false;
      table = table;
      count = length ts;
      terms = terms_value ts;
      shown = bits_of with_shown 0 ts;
      hidden = bits_of with_hidden 0 ts;
    }

unfoldable pub parsed_terms : Option (List TheTerm) → Parsed
unfolding blank_value good_value term_within all
parsed_terms none = blank_value false false
parsed_terms (some ts) = cond (all term_within ts) (good_value 0 ts) (blank_value true true)

unfoldable pub parsed_line : Option TheLine → Parsed
unfolding blank_value good_value line_within
parsed_line none = blank_value false false
parsed_line (some A) = cond (line_within A) (good_value A.table A.columns) (blank_value true true)

-- the number, or 0 where it is not from 1 to the most
unfoldable pub up_to_value : Numeral → ℕ → ℕ
up_to_value Malformed most = 0
up_to_value Large most = 0
up_to_value (Value n) most = cond (leb n most) n 0
