-- Lines with numbers for the keys of names.
use Rattle.std.specs.Prelude.{◌≡◌, cond, List, map, ℕ, ◌<◌, eqb}
use Rattle.theory.specs.Query.{◌∈◌}
use Rattle.words.specs.Bits.{is_set}
use Rattle.text.specs.Lines.{before}
use Rattle.model.specs.declared.Term.{Term}
use Rattle.model.specs.declared.Line.{Line}
use Rattle.numbering.specs.Names.{most_names}

-- a variable's key stands among these
abbrev pub Placed : List ℕ → Term → Type 0
Placed keys t = t.mark ≡ 3 → before t.number keys < most_names

-- a variable gets the place of its key, and is shown where that bit is set
unfoldable pub numbered_term : List ℕ → ℕ → Term → Term
unfolding before
numbered_term keys shown t =
    let n = before t.number keys in cond (eqb t.mark 3) (record { mark = cond (is_set shown n) 2 3; number = n }) t

abbrev pub AllPlaced : List ℕ → Line → Type 0
AllPlaced keys l = (t : Term) → t ∈ l.terms → Placed keys t

unfoldable pub numbered_line : List ℕ → ℕ → Line → Line
unfolding numbered_term
numbered_line keys shown l = record { table = l.table; terms = map (numbered_term keys shown) l.terms }
