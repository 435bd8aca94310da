-- What the code's check of a line gives: the first of the checks 4, 5 and 6 that turns the line back, which a value holds, behind
-- earlier lines of which it knows the variables alone.
use Rattle.std.specs.Prelude.{◌≡◌, true, List, ℕ, length}
use Rattle.theory.specs.Query.{Line}
use Rattle.model.specs.Limits.{line_within}
use Rattle.model.specs.Checks.{first_fault, fitting_table, misfit}
use Rattle.model.specs.Value.{tables_value}
use Rattle.model.specs.Parsed.{good_value}
use Rattle.model.specs.Variables.{Marked}
use Rattle.model.specs.declared.Tables.{Tables}
use Rattle.model.specs.declared.Parsed.{Parsed}

-- r turns back a line of the table with so many terms: 4, 5, or nothing
abbrev pub ColumnsChecked : Tables → ℕ → ℕ → ℕ → Type 0
ColumnsChecked tables table count r =
    (widths : List ℕ) (A : Line) → tables ≡ tables_value widths → table ≡ A.table → count ≡ length A.columns
    → r ≡ first_fault (fitting_table widths A)

-- r turns back the line of p, behind lines whose shown and hidden variables are the bits of s and h
abbrev pub LineChecked : Tables → ℕ → ℕ → Parsed → ℕ → Type 0
LineChecked tables s h p r =
    (widths : List ℕ) (earlier : List Line) (A : Line) → tables ≡ tables_value widths → Marked earlier s h → line_within A ≡ true
    → p ≡ good_value A.table A.columns → r ≡ misfit widths earlier A
