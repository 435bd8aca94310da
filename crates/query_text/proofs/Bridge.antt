-- What the code's query stands for is the query of the text, for every text that reading accepts.
use mathlib.Core.Path.{◌≡◌}
use mathlib.Core.List.{List}
use Prim.Native.Nat.{ℕ, ◌≤◌}
use Rattle.theory.specs.Query.{Query, ◌∈◌}
use Rattle.model.specs.Value.{query_value}
use Rattle.model.specs.Abstract.{as_query}
use Rattle.model.specs.Limits.{most_columns}
use Rattle.model.proofs.Values.{few_terms, as_query_lem}
use Rattle.query_text.specs.Text.{read, accepted}
use Rattle.query_text.proofs.Accepted.{accepted_well_read}

pub read_stands_for : (widths text : List ℕ) (Q : Query) → ((w : ℕ) → w ∈ widths → w ≤ most_columns) → read widths text ≡ accepted Q
    → as_query (query_value Q) ≡ Q
read_stands_for widths text Q narrow e =
    let w = accepted_well_read widths text Q e in as_query_lem Q (λ A m. few_terms widths narrow A (w.fits A m))
