-- Document 02, request 2: "The order of labels is no longer the program's choice."
use Rattle.std.specs.Prelude.{◌≡◌, List, ℕ, Result}
use Rattle.theory.specs.Query.{Query}
use Rattle.theory.specs.Archive.{Equivalent}
use Rattle.theory.specs.Reduce.{ReducesTo}
use Rattle.model.specs.declared.Policy.{Policy}
use Rattle.model.specs.declared.Refusal.{Refusal}
use Rattle.query_text.specs.Text.{read}
use Rattle.query_text.specs.Text.{accepted as read_as}
use Rattle.policy_text.specs.Declared.{Declared}
use Rattle.validity.specs.Loadable.{Loadable}
use Rattle.word_list.specs.Order.{ascending}
use Rattle.label_lists.specs.Listing.{listed, Lists, LabelsGiven}
use Rattle.desk.specs.Rewriting.{LabelsOfForm, LabelsOf}

pub record InOneOrder : Type 0 where
  -- what demand 2 says of a query's words leaves one list
  pub one_list : (d : Declared) (Q : Query) (ws us : List ℕ) → LabelsOf d Q ws → LabelsOf d Q us → ws ≡ us
  -- whichever lines are taken out, a call gives the labels of the lines left in ascending order
  pub any_form : (p : Policy) (l : Loadable p) (text before : List ℕ) (r : Result ℕ Refusal) (after : List ℕ) → LabelsGiven p text before r after
      → (Q : Query) → read l.declared.widths text ≡ read_as Q → (R : Query) → ReducesTo Q R
      → (lined : List ℕ) → LabelsOfForm l.declared R lined → Lists r after (listed before (ascending lined))
  -- however a query is put: two texts whose queries have the same answers on every archive get the same reply and the same cells
  pub same_answers : (p : Policy) (l : Loadable p) (text other before : List ℕ) (P Q : Query)
      → read l.declared.widths text ≡ read_as P → read l.declared.widths other ≡ read_as Q → Equivalent l.declared.widths P Q
      → (r t : Result ℕ Refusal) (after then : List ℕ) → LabelsGiven p text before r after → LabelsGiven p other before t then
      → (r ≡ t) × (after ≡ then)
