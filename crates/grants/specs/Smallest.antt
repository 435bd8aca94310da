-- Request 5, "The smallest extra grant", over archives.
use Rattle.std.specs.Prelude.{◌≡◌, ◌⊎◌, List, ℕ, ◌≤◌, T, length}
use Rattle.theory.specs.Query.{Query}
use Rattle.theory.specs.Archive.{DeterminedBy}
use Rattle.policy_text.specs.Declared.{Declared, Grants}
use Rattle.policy_text.specs.WellFormed.{ascend}
use Rattle.labelling.specs.Settled.{Known, HasNumber}
use Rattle.hitting.specs.Order.{Lower}

-- "with the list added the partition determines the query": any two archives that agree on each view of the partition at place i,
-- counted from 0, and on each view of the list give the query the same set of answers
abbrev pub DeterminesWith : Declared → ℕ → List ℕ → Query → Type 0
DeterminesWith d i added Q = DeterminedBy d.widths (λ v. Grants d i v ⊎ HasNumber d.views added v) Q

-- "the shortest list of views to add"
pub record Smallest (d : Declared) (i : ℕ) (Q : Query) (added : List ℕ) : Type 0 where
  -- views of the policy, "in ascending numbers"
  pub known : Known d.views added
  pub ascending : T (ascend added)
  -- "with the list added the partition determines the query"
  pub enough : DeterminesWith d i added Q
  -- "with fewer views of the policy added it never does", in whatever order and however often
  pub fewest : (ns : List ℕ) → Known d.views ns → DeterminesWith d i ns Q → length added ≤ length ns
  -- "Among equally short lists, the one with the lower number at the first difference wins."
  pub first : (ns : List ℕ) → Known d.views ns → DeterminesWith d i ns Q → length ns ≡ length added
      → (ns ≡ added) ⊎ Lower added ns

-- "after `none` not with any"
abbrev pub Hopeless : Declared → ℕ → Query → Type 0
Hopeless d i Q = (ns : List ℕ) → Known d.views ns → DeterminesWith d i ns Q → ⊥
