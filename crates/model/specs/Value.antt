-- The values of the code: what the structs hold for terms, lines and queries of the theory, unused entries behind them.
use Rattle.std.specs.Prelude.{Bool, ◌&&◌, List, ◌++◌, map, ℕ, suc, ◌-◌, eqb, length, take, replicate}
use Rattle.theory.specs.Query.{Query}
use Rattle.theory.specs.Query.{Term as TheTerm, Line as TheLine}
use Rattle.theory.specs.Executable.Test.{kind, number}
use Rattle.model.specs.Limits.{most_columns, most_lines, most_tables}
use Rattle.model.specs.declared.Term.{Term}
use Rattle.model.specs.declared.Line.{Line}
use Rattle.model.specs.declared.Tables.{Tables}
use Rattle.model.specs.declared.Query.{Query as QueryValue}

-- the list with d behind it, up to n entries
unfoldable pub pad : {X : Type 0} → ℕ → X → List X → List X
pad n d l = l ++ replicate (n - length l) d

-- "unused ones marked": the one unused term
unfoldable pub unused_term : Term
unused_term = record { mark = 0; number = 0 }

-- a constant has mark 1, a shown variable 2, a hidden one 3
unfoldable pub term_value : TheTerm → Term
unfolding kind number
term_value t = record { mark = suc (kind t); number = number t }

-- the same mark and the same number
unfoldable pub same_term : Term → Term → Bool
same_term t u = eqb t.mark u.mark && eqb t.number u.number

-- "The terms of a view are kept as rows of eight terms"
unfoldable pub terms_value : List TheTerm → List Term
unfolding pad unused_term term_value
terms_value ts = pad most_columns unused_term (take most_columns (map term_value ts))

unfoldable pub unused_line : Line
unfolding unused_term
unused_line = record { table = 0; terms = replicate most_columns unused_term }

unfoldable pub line_value : TheLine → Line
unfolding terms_value
line_value A = record { table = A.table; terms = terms_value A.columns }

unfoldable pub query_value : Query → QueryValue
unfolding pad unused_line line_value
query_value Q = record { count = length Q; lines = pad most_lines unused_line (map line_value Q) }

unfoldable pub tables_value : List ℕ → Tables
unfolding pad
tables_value widths = record { count = length widths; columns = pad most_tables 0 widths }
