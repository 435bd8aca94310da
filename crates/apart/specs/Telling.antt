-- A query laid in rows, and a partition that settles it or not.
use Rattle.std.specs.Prelude.{◌≡◌, cond, List, ℕ, Result}
use Rattle.std.proofs.Math.Option.{some}
use Rattle.std.proofs.Math.ListN.{get_elem?}
use Rattle.theory.specs.Query.{Query}
use Rattle.theory.specs.Executable.Label.{labels}
use Rattle.model.specs.declared.Tables.{Tables}
use Rattle.model.specs.declared.Refusal.{Refusal}
use Rattle.query_text.specs.WellRead.{WellRead}
use Rattle.policy_text.specs.Declared.{Declared}
use Rattle.policy_text.specs.Policy.{views_word}
use Rattle.labelling.specs.Posed.{Ready, PosedRows}
use Rattle.labelling.specs.Settled.{settled}
use Rattle.apart.specs.Archives.{settlement, archives, Gives}
use Rattle.apart.specs.declared.telling.Telling.{Telling}

-- rows hold a well-formed query of n lines; the partition at place i has the views with the numbers ns
pub record AskedRows (d : Declared) (t : Tables) (ns : List ℕ) (Q : Query) (r : List ℕ) (i n : ℕ) (lines : List ℕ) : Type 0 where
  pub ready : Ready d t r
  pub partition : get_elem? d.partitions i ≡ some ns
  pub query : WellRead d.widths Q
  pub posed : PosedRows d Q n lines

abbrev pub SomeAsked : List ℕ → ℕ → ℕ → List ℕ → Type 0
SomeAsked r i n lines = (d : Declared) × (t : Tables) × (ns : List ℕ) × (Q : Query) × AskedRows d t ns Q r i n lines

abbrev pub AskedTold : List ℕ → ℕ → ℕ → List ℕ → List ℕ → Result Telling Refusal → List ℕ → Type 0
AskedTold r i n lines before reply after =
    (d : Declared) (t : Tables) (ns : List ℕ) (Q : Query) → AskedRows d t ns Q r i n lines
    → Gives d i reply before after (cond (settled (views_word ns) (labels d.views Q)) settlement (archives Q))
