-- What is written for a policy text that loads, and for one that does not.
use mathlib.Core.Path.{◌≡◌, sym, ◌∙◌}
use mathlib.Core.List.{List, [], ◌∷◌, ◌++◌, append_assoc}
use Prim.Native.Nat.{ℕ}
use Rattle.std.specs.Prelude.{Result, Ok}
use Rattle.model.specs.declared.Policy.{Policy}
use Rattle.model.specs.declared.Refusal.{Refusal}
use Rattle.policy_text.specs.Text.{load}
use Rattle.policy_text.specs.Declared.{Declared}
use Rattle.policy_text.specs.Text.{refused as refused_policy, accepted as accepted_policy}
use Rattle.load.specs.Value.{loading_value}
use Rattle.load.proofs.Accepted.{loaded_policy}
use Rattle.labelling.specs.Text.{LoadedTo}
use Rattle.sessions.specs.Reply.{refused}
use Rattle.sessions.specs.Opening.{all_open}
use Rattle.writing.specs.Wrote.{Wrote}
use Rattle.writing.proofs.Wrote.{wrote_as, wrote_more}
use Rattle.cutting.specs.Cut.{cut}
use Rattle.run.specs.Output.{output_names, output_line}
use Rattle.run.specs.Run.{lines_from, under, written}

-- ---- how loading ended

pub loads_to : (text : List ℕ) (v : Result Policy Refusal) → v ≡ loading_value (load text) → (p : Policy) → v ≡ Ok p
    → (d : Declared) × (load text ≡ accepted_policy d) × LoadedTo p d
loads_to text v e p h =
    let (d, a, is, good) = loaded_policy text v e p h in (d, a, record { policy = is; good = good })

-- ---- the bytes under the names

pub written_refused : (policy queries : List ℕ) (n k : ℕ) → load policy ≡ refused_policy n k
    → written policy queries ≡ output_names ++ 10 ∷ output_line 0 refused 0 n k
unfolding written under
written_refused policy queries n k e = rw e

pub written_accepted : (policy queries : List ℕ) (d : Declared) → load policy ≡ accepted_policy d
    → written policy queries ≡ output_names ++ 10 ∷ lines_from d (all_open d) 1 (cut queries)
unfolding written under
written_accepted policy queries d e = rw e

-- what is written behind the names line
pub behind_names : {was mid is output : List ℕ} {at r : ℕ} (lines : List ℕ) → Wrote was 0 (output_names ++ 10 ∷ []) mid at
    → Wrote mid at lines is r → output ≡ output_names ++ 10 ∷ lines → Wrote was 0 output is r
behind_names lines v w e = wrote_as (append_assoc output_names (10 ∷ []) lines ∙ sym e) (wrote_more v w)
