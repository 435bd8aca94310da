-- What the parts of a policy value hold where some text loads to it: values of what the text declares, and unused entries
-- behind them.
use Rattle.std.specs.Prelude.{◌≡◌, Bool, true, false, List, map, ℕ, ◌^◌, ◌<◌, T, length}
use Rattle.theory.specs.Query.{shown, hidden, ◌∈◌}
use Rattle.theory.specs.Query.{Term as TheTerm}
use Rattle.words.specs.TestBits.{up_from}
use Rattle.model.specs.Limits.{most_tables, most_columns, most_views, most_partitions, term_within}
use Rattle.model.specs.Value.{pad, unused_term, term_value, unused_line, line_value, tables_value}
use Rattle.model.specs.declared.Term.{Term}
use Rattle.model.specs.declared.Line.{Line}
use Rattle.model.specs.declared.Tables.{Tables}
use Rattle.policy_text.specs.WellFormed.{OneToMost, GoodWidth, GoodView, GoodPartition}
use Rattle.policy_text.specs.Policy.{grants_of}

-- ---- any part

-- x is the value of something good
pub record ValueOf {A X : Type 0} (Good : A → Type 0) (value : A → X) (x : X) : Type 0 where
  pub thing : A
  pub good : Good thing
  pub is : x ≡ value thing

-- a used place holds something, a place behind them the unused entry
abbrev pub Place : {X : Type 0} → (X → Type 0) → X → Bool → X → Type 0
Place Used unused true x = Used x
Place Used unused false x = x ≡ unused

-- the values of n good things, at least one, and unused entries behind them up to the most
pub record HoldsList {A X : Type 0} (most : ℕ) (Good : A → Type 0) (value : A → X) (unused : X) (n : ℕ) (l : List X) : Type 0 where
  pub things : List A
  pub listed : OneToMost most Good things
  pub count : n ≡ length things
  pub is : l ≡ pad most unused (map value things)

-- ---- the tables

abbrev pub WidthPlace : Bool → ℕ → Type 0
WidthPlace = Place (ValueOf GoodWidth (λ w. w)) 0

-- the value of the tables with those columns
pub record TablesOf (widths : List ℕ) (t : Tables) : Type 0 where
  pub listed : OneToMost most_tables GoodWidth widths
  pub is : t ≡ tables_value widths

-- ---- the views

abbrev pub GoodTerm : TheTerm → Type 0
GoodTerm t = T (term_within t)

abbrev pub TermOf : Term → Type 0
TermOf = ValueOf GoodTerm term_value

abbrev pub TermPlace : Bool → Term → Type 0
TermPlace = Place TermOf unused_term

-- that many terms of a line within their limits, none of whose variables is both shown and hidden
pub record TermsHeld (width : ℕ) (l : List Term) : Type 0 where
  pub held : HoldsList most_columns GoodTerm term_value unused_term width l
  pub clear : (n : ℕ) → shown n ∈ held.things → hidden n ∈ held.things → ⊥

abbrev pub ViewOf : List ℕ → Line → Type 0
ViewOf widths = ValueOf (GoodView widths) line_value

abbrev pub ViewPlace : List ℕ → Bool → Line → Type 0
ViewPlace widths = Place (ViewOf widths) unused_line

abbrev pub ViewsHeld : List ℕ → ℕ → List Line → Type 0
ViewsHeld widths = HoldsList most_views (GoodView widths) line_value unused_line

-- ---- the partitions

-- the word of a view: the partitions that grant it, of n
abbrev pub GrantPlace : ℕ → Bool → ℕ → Type 0
GrantPlace n = Place (λ g. g < 2 ^ n) 0

-- the words of n good partitions of a policy with that many views
pub record PartitionsHeld (views n : ℕ) (grants : List ℕ) : Type 0 where
  pub things : List (List ℕ)
  pub listed : OneToMost most_partitions (GoodPartition views) things
  pub count : n ≡ length things
  pub is : grants ≡ map (grants_of things) (up_from 1 most_views)
