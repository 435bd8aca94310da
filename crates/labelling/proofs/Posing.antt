-- What a loaded policy and a query text that reading accepts under its tables give to label.
use mathlib.Core.Path.{◌≡◌, sym, ap, ◌∙◌}
use mathlib.Core.List.{List, map}
use Prim.Native.Nat.{ℕ, ◌+◌, ◌-◌, ◌^◌, ◌≤◌, ◌<◌}
use native.Mathlib.Omega.{arith}
use lib.Dec.{leb→le}
use lib.ListN.{length, get_or, length-map}
use native.Mathlib.Nat.{le_refl}
use Rattle.theory.specs.Query.{Query, hidden, over, ◌∈◌}
use Rattle.theory.specs.Query.{Line as TheLine}
use Rattle.theory.specs.Reduce.{ReducesTo, done, take_out}
use Rattle.theory.specs.Executable.Reduce.{reduce}
use Rattle.theory.specs.Executable.Show.{show_term, show}
use Rattle.theory.specs.Executable.Label.{label, labels}
use Rattle.theory.proofs.Lists.{length_without}
use Rattle.theory.proofs.Executable.Reduce.{reduce_reduces}
use Rattle.model.specs.Limits.{most_tables, most_columns, most_views, most_partitions, most_lines, last_variable, term_within}
use Rattle.model.specs.Value.{query_value, tables_value}
use Rattle.model.specs.declared.Policy.{Policy}
use Rattle.model.specs.declared.Tables.{Tables}
use Rattle.model.specs.declared.Query.{Query as QueryValue}
use Rattle.model.proofs.Pad.{pad_get}
use Rattle.model.proofs.Values.{few_terms}
use Rattle.query_text.specs.Text.{read, accepted}
use Rattle.query_text.specs.WellRead.{WellRead}
use Rattle.query_text.proofs.Accepted.{accepted_well_read}
use Rattle.policy_text.specs.Declared.{Declared}
use Rattle.policy_text.specs.WellFormed.{WellFormed}
use Rattle.policy_text.specs.Policy.{grants_of, policy_value}
use Rattle.model.proofs.Limits.{up_to_iff, line_within_iff}
use Rattle.policy_text.proofs.Grants.{grants_at}
use Rattle.covering.specs.Views.{Holds}
use Rattle.covering.specs.Prepared.{Prepared}
use Rattle.entering.specs.Laid.{Laid}
use Rattle.entering.specs.Showing.{Small}
use Rattle.entering.proofs.Lines.{held_count}
use Rattle.labelling.specs.Posed.{Ready, Posed, PosedRows}
use Rattle.labelling.specs.Text.{LoadedTo}

-- "variables 0 to 63"
small_read : {widths : List ℕ} {Q : Query} → WellRead widths Q → Small Q
unfolding term_within
small_read w n A i m = omega (arith, leb→le n last_variable (((line_within_iff A).0 (w.within A i)).1 (hidden n) m))

pub tables_of : {p : Policy} {d : Declared} → LoadedTo p d → p.tables ≡ tables_value d.widths
unfolding policy_value
tables_of l = ap (λ (x : Policy). x.tables) l.policy

holds : {p : Policy} {d : Declared} → LoadedTo p d → Holds p d.views
unfolding policy_value
holds l = record { few = l.good.views.few; is = ap (λ (x : Policy). x.views) l.policy }

few_partitions : {p : Policy} {d : Declared} → LoadedTo p d → p.partition_count ≡ length d.partitions
unfolding policy_value
few_partitions l = ap (λ (x : Policy). x.partition_count) l.policy

-- a loaded policy has no more partitions than a word has room for
pub counted : {p : Policy} {d : Declared} → LoadedTo p d → p.partition_count ≤ most_partitions
counted l = rw (few_partitions l) l.good.partitions.few

grants_are : {p : Policy} {d : Declared} → LoadedTo p d → (k : ℕ) → k < most_views → get_or p.grants k 0 ≡ grants_of d.partitions (k + 1)
unfolding policy_value
grants_are {d = d} l k h = ap (λ (x : Policy). get_or x.grants k 0) l.policy ∙ grants_at d.partitions k h

columns_are : {p : Policy} {d : Declared} → LoadedTo p d → (t : ℕ) → get_or p.tables.columns t 0 ≡ get_or d.widths t 0
unfolding tables_value
columns_are {d = d} l t = ap (λ (x : Tables). get_or x.columns t 0) (tables_of l) ∙ pad_get most_tables 0 d.widths t

-- what is made of a loaded policy once
pub ready : {p : Policy} {d : Declared} {r : List ℕ} → LoadedTo p d → Prepared p r → Ready d p.tables r
ready {d = d} l made =
    let held = holds l in
    record {
      good = l.good;
      tables_are = tables_of l;
      long = made.long;
      laid = made.laid d.views held;
      below = λ t h. (made.table t h).below;
      bits = λ t first h. (made.table t h).bits first d.views held;
      grant = λ k h. made.grant k h ∙ grants_are l k h;
      every = made.every ∙ ap (λ (n : ℕ). 2 ^ n - 1) (few_partitions l);
      width = λ t h. made.width t h ∙ columns_are l t;
      free = made.free;
    }

pub posed : {q : QueryValue} (d : Declared) (text : List ℕ) (Q : Query) → WellFormed d → read d.widths text ≡ accepted Q
    → q ≡ query_value Q → Posed q d Q
posed d text Q good e holds =
    let w = accepted_well_read d.widths text Q e in
    let narrow : (n : ℕ) → n ∈ d.widths → n ≤ most_columns = λ n i. ((up_to_iff most_columns n).0 (good.tables.each n i)).1 in
    record {
      query = record { is = holds; lines = w.few; columns = λ A i. few_terms d.widths narrow A (w.fits A i) };
      small = small_read w;
      fits = w.fits;
    }

-- the value has no more lines than there may be, and its rows hold the query
pub posed_few : {q : QueryValue} {d : Declared} {Q : Query} → Posed q d Q → q.count ≤ most_lines
posed_few g = omega (arith, held_count g.query, g.query.lines)

pub posed_rows : {q : QueryValue} {d : Declared} {Q : Query} {rows : List ℕ} → Posed q d Q → Laid Q rows → PosedRows d Q q.count rows
posed_rows g l = record { count = sym (held_count g.query); laid = l; small = g.small; fits = g.fits }

-- ---- there are no more labels than lines

reduced_length : {Q R : Query} → ReducesTo Q R → length R ≤ length Q
reduced_length (done {Q = P} r) = le_refl (length P)
reduced_length (take_out {Q = P} i g r) = omega (arith, reduced_length r, length_without i P g.0)

pub few_labels : (views : List TheLine) (widths text : List ℕ) (Q : Query) → read widths text ≡ accepted Q
    → length (labels views Q) ≤ most_lines
unfolding labels show
few_labels views widths text Q e =
    let w = accepted_well_read widths text Q e in
    let R = reduce Q in
    let a = length-map (map (over (show_term R)) R) (label views) in
    omega (arith, w.few, reduced_length (reduce_reduces Q), a, length-map R (over (show_term R)))
