-- The first unused entry of a policy value taken: the value of what is declared with one table, view or partition more.
use mathlib.Core.Path.{◌≡◌, sym, ap, ◌∙◌, subst}
use mathlib.Core.List.{List, [], ◌∷◌, ◌++◌, map, map-append}
use Prim.Native.Nat.{ℕ, ◌+◌, ◌<◌}
use native.Mathlib.Omega.{arith}
use lib.ListN.{length, get_or, set, length-append, length-map}
use Rattle.theory.specs.Query.{Line}
use Rattle.words.specs.Bits.{is_set}
use Rattle.words.specs.TestBits.{up_from}
use Rattle.words.proofs.TestBits.{tests_more, made_of}
use Rattle.model.specs.Limits.{most_tables, most_views}
use Rattle.model.specs.Value.{pad, tables_value, unused_line, line_value}
use Rattle.model.specs.Parsed.{good_value}
use Rattle.model.specs.declared.Policy.{Policy}
use Rattle.model.specs.declared.Parsed.{Parsed}
use Rattle.model.specs.declared.Line.{Line as LineValue}
use Rattle.model.proofs.Pad.{pad_more}
use Rattle.policy_text.specs.Declared.{Declared}
use Rattle.policy_text.specs.Policy.{lists, grants_of, policy_value}
use Rattle.policy_text.proofs.Grants.{grants_at, word_says}
use Rattle.policy_lines.specs.Value.{view_list}
use Rattle.load.specs.Steps.{more_tables, more_views, more_partitions}
use Rattle.load.specs.Entering.{Granting}

-- an entry more behind entries that are made of a list
entry_more : {X Y : Type 0} (n : ℕ) (none : Y) (f : X → Y) (l : List X) (x : X) → length l < n
    → set (pad n none (map f l)) (length l) (f x) ≡ pad n none (map f (l ++ x ∷ []))
entry_more n none f l x h =
    ap (λ (k : ℕ). set (pad n none (map f l)) k (f x)) (sym (length-map l f))
    ∙ pad_more n none (map f l) (f x) (subst (λ (k : ℕ). k < n) (sym (length-map l f)) h)
    ∙ ap (pad n none) (sym (map-append f l (x ∷ [])))

module _ (d : Declared) (p : Policy) (e : p ≡ policy_value d) where
  pub tables_of : p.tables ≡ tables_value d.widths
  unfolding policy_value
  tables_of = ap (λ (q : Policy). q.tables) e

  pub view_count_of : p.view_count ≡ length d.views
  unfolding policy_value
  view_count_of = ap (λ (q : Policy). q.view_count) e

  pub partition_count_of : p.partition_count ≡ length d.partitions
  unfolding policy_value
  partition_count_of = ap (λ (q : Policy). q.partition_count) e

  pub table_more : (w : ℕ) → p.tables.count < most_tables
      → ◌≡◌ {A = Policy}
      (record {
        tables = record { count = p.tables.count + 1; columns = set p.tables.columns p.tables.count w };
        view_count = p.view_count;
        views = p.views;
        partition_count = p.partition_count;
        grants = p.grants;
      })
      (policy_value (more_tables d w))
  unfolding policy_value tables_value more_tables
  table_more w h =
      let count : p.tables.count + 1 ≡ length (d.widths ++ w ∷ []) =
      ap (λ (q : Policy). q.tables.count + 1) e ∙ sym (length-append d.widths (w ∷ [])) in
      let columns : set p.tables.columns p.tables.count w ≡ pad most_tables 0 (d.widths ++ w ∷ []) =
      ap (λ (q : Policy). set q.tables.columns q.tables.count w) e
      ∙ pad_more most_tables 0 d.widths w (subst (λ (q : Policy). q.tables.count < most_tables) e h) in
      λ i. record {
        tables = record { count = count i; columns = columns i };
        view_count = (e i).view_count;
        views = (e i).views;
        partition_count = (e i).partition_count;
        grants = (e i).grants;
      }

  pub view_more : (A : Line) (v : Parsed) → v ≡ good_value A.table A.columns → p.view_count < most_views
      → ◌≡◌ {A = Policy}
      (record {
        tables = p.tables;
        view_count = p.view_count + 1;
        views = set p.views p.view_count (record { table = v.table; terms = v.terms });
        partition_count = p.partition_count;
        grants = p.grants;
      })
      (policy_value (more_views d A))
  unfolding policy_value more_views good_value line_value
  view_more A v g h =
      let count : p.view_count + 1 ≡ length (d.views ++ A ∷ []) =
      ap (λ (q : Policy). q.view_count + 1) e ∙ sym (length-append d.views (A ∷ [])) in
      let line : ◌≡◌ {A = LineValue} (record { table = v.table; terms = v.terms }) (line_value A) =
      λ i. record { table = (g i).table; terms = (g i).terms } in
      let views : set p.views p.view_count (record { table = v.table; terms = v.terms })
      ≡ pad most_views unused_line (map line_value (d.views ++ A ∷ [])) =
      ap (λ (q : Policy). set q.views q.view_count (record { table = v.table; terms = v.terms })) e
      ∙ ap (set (pad most_views unused_line (map line_value d.views)) (length d.views)) line
      ∙ entry_more most_views unused_line line_value d.views A (subst (λ (q : Policy). q.view_count < most_views) e h) in
      λ i. record {
        tables = (e i).tables;
        view_count = count i;
        views = views i;
        partition_count = (e i).partition_count;
        grants = (e i).grants;
      }

  -- the words with one partition more
  grants_more : (vs : List ℕ) (m : ℕ) (grants : List ℕ) → m ≡ (view_list vs).views → length grants ≡ most_views
      → Granting p.grants m p.partition_count grants
      → grants ≡ map (grants_of (d.partitions ++ vs ∷ [])) (up_from 1 most_views)
  unfolding policy_value view_list grants_of
  grants_more vs m grants g long made =
      rw long at (made_of (grants_of (d.partitions ++ vs ∷ [])) 0 1 grants (λ k h. each k (rw long at h)))
    where
      each : (k : ℕ) → k < most_views → get_or grants k 0 ≡ grants_of (d.partitions ++ vs ∷ []) (1 + k)
      each k h =
          let next : 1 + k ≡ k + 1 = omega arith in
          let old : get_or p.grants k 0 ≡ grants_of d.partitions (k + 1) =
          ap (λ (q : Policy). get_or q.grants k 0) e ∙ grants_at d.partitions k h in
          let on : is_set m k ≡ lists vs (k + 1) = ap (λ (w : ℕ). is_set w k) g ∙ word_says vs k h in
          made k h
          ∙ rw (next, on, old, partition_count_of) (sym (tests_more (λ ns. lists ns (k + 1)) d.partitions vs))

  pub partition_more : (vs : List ℕ) (m : ℕ) (grants : List ℕ) → m ≡ (view_list vs).views → length grants ≡ most_views
      → Granting p.grants m p.partition_count grants
      → ◌≡◌ {A = Policy}
      (record {
        tables = p.tables;
        view_count = p.view_count;
        views = p.views;
        partition_count = p.partition_count + 1;
        grants = grants;
      })
      (policy_value (more_partitions d vs))
  unfolding policy_value more_partitions
  partition_more vs m grants g long made =
      let count : p.partition_count + 1 ≡ length (d.partitions ++ vs ∷ []) =
      ap (λ (q : Policy). q.partition_count + 1) e ∙ sym (length-append d.partitions (vs ∷ [])) in
      λ i. record {
        tables = (e i).tables;
        view_count = (e i).view_count;
        views = (e i).views;
        partition_count = count i;
        grants = grants_more vs m grants g long made i;
      }
