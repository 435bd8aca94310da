-- The code's values for the definitions of `Text`.
use Rattle.std.specs.Prelude.{◌≡◌, Result, Ok, Err, false, List, [], ℕ, ◌≤◌, length}
use Rattle.std.proofs.Math.Option.{some}
use Rattle.theory.specs.Query.{Line, Query}
use Rattle.text.specs.Lines.{lines}
use Rattle.model.specs.Value.{query_value, tables_value}
use Rattle.model.specs.Limits.{most_tables}
use Rattle.model.specs.Parsed.{parsed_line}
use Rattle.model.specs.Variables.{Marked}
use Rattle.model.specs.declared.Tables.{Tables}
use Rattle.model.specs.declared.Parsed.{Parsed}
use Rattle.model.specs.declared.Query.{Query as ReadQuery}
use Rattle.model.specs.declared.Refusal.{Refusal}
use Rattle.query_text.specs.Text.{refused, accepted, fault, read_from}
use Rattle.query_text.specs.Text.{Reading as TheReading}

-- the query, or what turns the text back
unfoldable pub reading_value : TheReading → Result ReadQuery Refusal
unfolding query_value
reading_value (refused n k) = Err (record { number = n; line = k })
reading_value (accepted Q) = Ok (query_value Q)

-- the reading of a text that is lines of values alone, the first with the number k
abbrev pub LinesRead : Tables → List ℕ → ℕ → Result ReadQuery Refusal → Type 0
LinesRead tables text k r =
    (widths : List ℕ) → tables ≡ tables_value widths → r ≡ reading_value (read_from widths [] k (lines text).ended (lines text).rest)

-- a line within its limits names a table that there may be
abbrev pub LineTabled : Parsed → Type 0
LineTabled p = (p.outside ≡ false) → (1 ≤ p.table) × (p.table ≤ most_tables)

-- r turns back the line of p behind `count` lines, whose shown and hidden variables are the bits of s and h
abbrev pub FaultBehind : Tables → ℕ → ℕ → ℕ → Parsed → ℕ → Type 0
FaultBehind tables count s h p r =
    (widths : List ℕ) (earlier : Query) (A : Line) → tables ≡ tables_value widths → count ≡ length earlier → Marked earlier s h
    → p ≡ parsed_line (some A) → r ≡ fault widths earlier A
