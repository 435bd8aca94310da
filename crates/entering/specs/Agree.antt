-- One map of variables for two lines: constants and shown variables of each stand over themselves, and equal terms, in one
-- line or in both, over equal terms.
use Rattle.std.specs.Prelude.{Bool, ◌&&◌, ℕ, eqb, length, get_or}
use mathlib.Core.List.{[], zip}
use Rattle.theory.specs.Query.{Line, Query}
use Rattle.theory.specs.Executable.Test.{all}
use Rattle.theory.specs.Executable.Reduce.{keeps, agrees}

-- same table, same width, and what a map keeps stands over itself
unfoldable pub goes : Line → Line → Bool
unfolding all keeps zip
goes A S =
    eqb A.table S.table && (eqb (length A.columns) (length S.columns) && all keeps (zip A.columns S.columns))

-- line A goes to line S and line B to line D
unfoldable pub agree : Line → Line → Line → Line → Bool
unfolding goes all agrees zip
agree A S B D = goes A S && (goes B D && all (λ y. all (agrees y) (zip B.columns D.columns)) (zip A.columns S.columns))

-- the line at a place
unfoldable pub line_at : Query → ℕ → Line
line_at Q i = get_or Q i (record { table = 0; columns = [] })
