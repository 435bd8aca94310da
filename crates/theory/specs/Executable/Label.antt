-- Document 01, "Label": one word for each line of the reduced query, shared variables shown.
use Rattle.std.specs.Prelude.{Bool, List, map, ℕ, ◌+◌, ◌*◌, ◌^◌}
use Rattle.words.specs.Bits.{half_bits}
use Rattle.words.specs.TestBits.{test_bits}
use Rattle.theory.specs.Query.{Line, Query}
use Rattle.theory.specs.Executable.Test.{all, any}
use Rattle.theory.specs.Executable.Reduce.{reduce}
use Rattle.theory.specs.Executable.Show.{show}
use Rattle.theory.specs.Executable.Cover.{covers}

-- the views that cover a line, as a word: view n at bit n − 1
abbrev pub view_bits : List Line → Line → ℕ
view_bits vs A = test_bits (λ v. covers v A) vs

-- "the low 32 bits hold the table number and the high 32 bits the views, view n at bit 31 + n"
unfoldable pub label : List Line → Line → ℕ
unfolding test_bits covers
label vs A = A.table + 2 ^ half_bits * view_bits vs A

-- "One word of 64 bits for each reduced line"
unfoldable pub labels : List Line → Query → List ℕ
unfolding label reduce show
labels vs Q = map (label vs) (show (reduce Q))

-- "A partition settles a query when each label holds one of its views."
unfoldable pub settles : List Line → Query → Bool
unfolding all any covers reduce show
settles vs Q = all (λ A. any (λ v. covers v A) vs) (show (reduce Q))
