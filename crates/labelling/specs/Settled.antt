-- Document 01, "Session": when a partition settles a query, read off its labels.
use Rattle.std.specs.Prelude.{◌≡◌, Bool, List, map, ℕ, ◌-◌, ◌/◌, ◌^◌, ◌≤◌, length}
use Rattle.std.proofs.Math.Option.{some}
use Rattle.std.proofs.Math.ListN.{get_elem?}
use Rattle.theory.specs.Query.{Line, Query, ◌∈◌}
use Rattle.theory.specs.Executable.Test.{all, any}
use Rattle.theory.specs.Executable.Cover.{covers}
use Rattle.theory.specs.Executable.Label.{settles}
use Rattle.words.specs.Bits.{half_bits}
use Rattle.words.specs.Sets.{meet}
use Rattle.words.specs.TestBits.{test_bits}
use Rattle.policy_text.specs.Declared.{Declared}
use Rattle.entering.specs.Agree.{line_at}

-- a label holds one of a partition's views
unfoldable pub holds_one : ℕ → ℕ → Bool
unfolding meet
holds_one partition w = meet 64 (w / 2 ^ half_bits) partition

-- "A partition settles a query when each label holds one of its views."
unfoldable pub settled : ℕ → List ℕ → Bool
unfolding all holds_one
settled partition ws = all (holds_one partition) ws

-- the views of a partition, by their numbers
unfoldable pub granted : List Line → List ℕ → List Line
unfolding line_at
granted views vs = map (λ v. line_at views (v - 1)) vs

-- "from 1 in file order": numbers of views that are there
abbrev pub Known : List Line → List ℕ → Type 0
Known views ns = (n : ℕ) → n ∈ ns → (1 ≤ n) × (n ≤ length views)

-- v is the view of one of these numbers
pub record HasNumber (views : List Line) (ns : List ℕ) (v : Line) : Type 0 where
  pub number : ℕ
  pub listed : number ∈ ns
  pub from_one : 1 ≤ number
  pub view : get_elem? views (number - 1) ≡ some v

-- ---- the partitions that settle a query, as a word: the first at bit 0

-- one of the views with these numbers covers the line
abbrev pub answers : List Line → Line → List ℕ → Bool
answers views A ns = any (λ v. covers v A) (granted views ns)

-- those whose views settle it
unfoldable pub settling : Declared → Query → ℕ
unfolding test_bits settles granted
settling d Q = test_bits (λ ns. settles (granted d.views ns) Q) d.partitions

-- those that have for each of some lines a view that covers it
unfoldable pub settling_lines : Declared → List Line → ℕ
unfolding test_bits all any covers granted
settling_lines d R = test_bits (λ ns. all (λ A. answers d.views A ns) R) d.partitions
