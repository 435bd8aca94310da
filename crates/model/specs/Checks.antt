-- Document 01, the checks 4, 5 and 6 that turn a line back, each a test on what the line says and what earlier lines declared.
use Rattle.std.specs.Prelude.{Bool, false, cond, not, List, [], ◌∷◌, ◌++◌, ℕ, ◌-◌, leb, eqb, length, get_or}
use Rattle.theory.specs.Query.{Term, constant, shown, hidden, Line}
use Rattle.theory.specs.Executable.Test.{any, same}

-- the table is declared (4)
unfoldable pub known : List ℕ → Line → Bool
known widths A = leb A.table (length widths)

-- the terms are as many as the table's columns (5)
unfoldable pub wide : List ℕ → Line → Bool
wide widths A = eqb (length A.columns) (get_or widths (A.table - 1) 0)

-- the same number with the other mark
unfoldable pub opposite : Term → Term → Bool
opposite (constant c) u = false
opposite (shown n) u = same u (hidden n)
opposite (hidden n) u = same u (shown n)

-- a term of the line stands with the other mark in the line or an earlier one (6)
unfoldable pub clashing : List Line → Line → Bool
unfolding any opposite
clashing earlier A = any (λ t. any (λ B. any (opposite t) B.columns) (A ∷ earlier)) A.columns

-- the number of the first check that turns a line back, 0 where none does
pub record Check : Type 0 where
  pub broken : Bool
  pub number : ℕ

unfoldable pub first_fault : List Check → ℕ
first_fault [] = 0
first_fault (c ∷ cs) = cond c.broken c.number (first_fault cs)

-- the checks of a line against the tables: "4: an unknown table or view. 5: terms fewer or more than the columns."
abbrev pub fitting_table : List ℕ → Line → List Check
fitting_table widths A =
    record { broken = not (known widths A); number = 4 }
    ∷ record { broken = not (wide widths A); number = 5 }
    ∷ []

-- and those against the line itself and the lines before it: "6: one variable number both shown and hidden."
abbrev pub fitting : List ℕ → List Line → Line → List Check
fitting widths earlier A = fitting_table widths A ++ record { broken = clashing earlier A; number = 6 } ∷ []

-- what turns back a line within its limits that stands behind the lines `earlier`: 4, 5, 6, or nothing
unfoldable pub misfit : List ℕ → List Line → Line → ℕ
unfolding first_fault known wide clashing
misfit widths earlier A = first_fault (fitting widths earlier A)
