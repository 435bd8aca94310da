-- The text of the query that a rule becomes, step by step.
use Rattle.std.specs.Prelude.{◌≡◌, cond, Option, Some, None, Result, Err, MatchResult, List, ◌∷◌, map, ℕ, ◌≤◌, length, take}
use Rattle.std.proofs.Math.Option.{Option as Maybe, none, some}
use Rattle.theory.specs.Query.{Query, ◌∈◌}
use Rattle.theory.specs.Query.{Line as TheLine}
use Rattle.text.specs.Lines.{parts}
use Rattle.model.specs.Limits.{most_lines, most_columns}
use Rattle.model.specs.Value.{line_value, tables_value}
use Rattle.model.specs.declared.Tables.{Tables}
use Rattle.model.specs.declared.Line.{Line}
use Rattle.model.specs.declared.Query.{Query as QueryValue}
use Rattle.query_text.specs.Print.{query_text}
use Rattle.policy_text.specs.WellFormed.{GoodWidth}
use Rattle.rules.specs.Rule.{Rule}
use Rattle.rules.specs.Text.{closing, rule_of_pieces, rule_of}
use Rattle.rules.specs.Numbering.{query_of}
use Rattle.rules.specs.Checks.{rule_fault}
use Rattle.numbering.specs.Names.{most_names}
use Rattle.numbering.specs.Lines.{AllPlaced, numbered_line}
use Rattle.rule_body.specs.declared.head.Head.{Head}
use Rattle.import.specs.declared.translating.TurnedBack.{TurnedBack}

-- room for the text of any query that a rule becomes
abbrev pub text_room : ℕ
text_room = 2048

-- ---- printing

-- the lines of the value
abbrev pub lines_of : QueryValue → List Line
lines_of q = take q.count q.lines

-- each variable of the lines has its key among these
pub record NamedLines (q : QueryValue) (keys : List ℕ) : Type 0 where
  pub few : q.count ≤ most_lines
  pub most : length keys ≤ most_names
  pub named : (l : Line) → l ∈ lines_of q → AllPlaced keys l

-- the text is that of a query whose lines these are, with numbers for keys
abbrev pub QueryPut : QueryValue → List ℕ → ℕ → List ℕ → ℕ → Type 0
QueryPut q keys shown out r =
    (Q : Query) → map (numbered_line keys shown) (lines_of q) ≡ map line_value Q
    → ((A : TheLine) → A ∈ Q → length A.columns ≤ most_columns) → (take r out ≡ query_text Q) × (r ≡ length (query_text Q))

-- ---- a rule

-- "7, 2, 4 and 5", "11 … and 12 …, after 5 and in that order": of a head, and a body that is turned back by this
unfoldable pub first_of : Option ℕ → Head → Option ℕ
first_of (Some n) h = Some n
first_of None h = cond h.missing (Some 11) (cond h.twice (Some 12) None)

-- under tables of 1 to the most columns: the rule's text, or the number of what turns the rule back
abbrev pub TranslatedAs : List ℕ → Maybe Rule → List ℕ → Result ℕ TurnedBack → Type 0
TranslatedAs widths none out r = r ≡ Err (record { number = 1 })
TranslatedAs widths (some x) out r =
    MatchResult r
    (λ n. (rule_fault widths x ≡ 0) × (take n out ≡ query_text (query_of x)) × (n ≡ length (query_text (query_of x))))
    (λ t. (t.number ≡ rule_fault widths x) × (t.number ≡ 0 → ⊥))

-- "columns 1 to 8", of each table
abbrev pub Narrow : List ℕ → Type 0
Narrow widths = (n : ℕ) → n ∈ widths → GoodWidth n

-- a rule's head and its body, each up to the bracket that closes it
abbrev pub PartsTranslated : Tables → List ℕ → List ℕ → List ℕ → Result ℕ TurnedBack → Type 0
PartsTranslated tables head body out r =
    (widths : List ℕ) → tables ≡ tables_value widths → Narrow widths
    → TranslatedAs widths (rule_of_pieces (head ∷ parts closing body)) out r

abbrev pub Translates : Tables → List ℕ → List ℕ → Result ℕ TurnedBack → Type 0
Translates tables rule out r =
    (widths : List ℕ) → tables ≡ tables_value widths → Narrow widths → TranslatedAs widths (rule_of rule) out r
