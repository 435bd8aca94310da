-- The reply of `tell_apart` and the buffer after it, case by case.
use mathlib.Core.Path.{◌≡◌, refl, sym, subst, ◌∙◌}
use mathlib.Core.Bool.{true, false, cond}
use mathlib.Core.List.{List, []}
use mathlib.Core.Option.{some}
use Prim.Native.Nat.{ℕ, ◌-◌, ◌≤◌, ◌<◌}
use native.Mathlib.Omega.{arith}
use borrow.Author.Tests.{lt-ltb, le-ltb}
use lib.ListN.{length, get_elem?}
use Rattle.std.specs.Prelude.{Result, Err}
use Rattle.theory.specs.Query.{Query}
use Rattle.theory.specs.Executable.Label.{labels}
use Rattle.theory.proofs.Lists.{below_place, there}
use Rattle.words.proofs.Answers.{true_holds}
use Rattle.model.specs.Limits.{up_to}
use Rattle.model.specs.declared.Policy.{Policy}
use Rattle.model.specs.declared.Refusal.{Refusal}
use Rattle.model.proofs.Limits.{up_to_iff}
use Rattle.query_text.specs.Text.{Reading, refused, accepted, read}
use Rattle.query_text.proofs.Accepted.{accepted_well_read}
use Rattle.policy_text.specs.Policy.{views_word}
use Rattle.validity.specs.Loadable.{Loadable}
use Rattle.covering.specs.Prepared.{Prepared}
use Rattle.labelling.specs.Posed.{PosedRows}
use Rattle.labelling.specs.Settled.{settled}
use Rattle.labelling.proofs.Posing.{ready}
use Rattle.labelling.proofs.Loaded.{loaded_to}
use Rattle.explanations.proofs.Explained.{declared_place}
use Rattle.apart.specs.Archives.{refusal, settlement, archives, most_cells, said_telling, owed_for, owed, Gives, ArchivesGiven}
use Rattle.apart.specs.declared.telling.Telling.{Telling}
use Rattle.apart.specs.Telling.{AskedRows, AskedTold}

-- ---- what is asked of the query's rows

module _ {p : Policy} (n : ℕ) (among : up_to p.partition_count n ≡ true) where
  -- the partition's place, and the numbers of its views
  pub numbers : (m : Loadable p) → (ns : List ℕ) × (get_elem? m.declared.partitions (n - 1) ≡ some ns)
  numbers m =
      let b = (up_to_iff (length m.declared.partitions) n).0 (true_holds (declared_place m n true among)) in
      below_place m.declared.partitions (n - 1) (omega (arith, b.0, b.1))

  pub asked : {r : List ℕ} → Prepared p r → {count : ℕ} {lines : List ℕ} (m : Loadable p) (text : List ℕ) (Q : Query)
      → read m.declared.widths text ≡ accepted Q → PosedRows m.declared Q count lines
      → AskedRows m.declared p.tables (numbers m).0 Q r (n - 1) count lines
  asked made m text Q reads posed = record {
    ready = ready (loaded_to m) made;
    partition = (numbers m).1;
    query = accepted_well_read m.declared.widths text Q reads;
    posed = posed;
  }

-- ---- the replies

module _ {p : Policy} (n : ℕ) (text before : List ℕ) where
  -- a refusal, where it is what each declaration of the policy owes
  refuses : Loadable p → (number line : ℕ) → ((l : Loadable p) → owed l.declared n text (length before) ≡ refusal number line)
      → ArchivesGiven p n text before (Err (record { number = number; line = line })) before
  unfolding said_telling
  refuses l number line owes = record {
    unloaded = λ none. absurd (none l);
    loaded = λ m.
        subst (Gives m.declared (n - 1) (Err (record { number = number; line = line })) before before) (sym (owes m)) (record { reply = refl; buffer = refl });
  }

  pub not_loaded : (Loadable p → ⊥) → ArchivesGiven p n text before (Err (record { number = 8; line = 0 })) before
  unfolding said_telling
  not_loaded none = record { unloaded = λ f. record { reply = refl; buffer = refl }; loaded = λ l. absurd (none l) }

  pub no_partition : Loadable p → up_to p.partition_count n ≡ false → ArchivesGiven p n text before (Err (record { number = 4; line = 0 })) before
  unfolding owed
  no_partition l e = refuses l 4 0 (λ m. rw (declared_place m n false e) refl)

  module _ (l : Loadable p) (among : up_to p.partition_count n ≡ true) where
    owed_by : (m : Loadable p) (v : Reading) → read m.declared.widths text ≡ v
        → owed m.declared n text (length before) ≡ owed_for m.declared n (length before) v
    unfolding owed
    owed_by m v e = rw (declared_place m n true among, e) refl

    pub text_turned : (number line : ℕ) → ((m : Loadable p) → read m.declared.widths text ≡ refused number line)
        → ArchivesGiven p n text before (Err (record { number = number; line = line })) before
    unfolding owed_for
    text_turned number line e = refuses l number line (λ m. owed_by m (refused number line) (e m))

    pub too_short : ((m : Loadable p) → (Q : Query) × (read m.declared.widths text ≡ accepted Q)) → length before < most_cells
        → ArchivesGiven p n text before (Err (record { number = 10; line = 0 })) before
    unfolding owed_for
    too_short reads short =
        refuses l 10 0 (λ m. let (Q, e) = reads m in owed_by m (accepted Q) e ∙ rw (lt-ltb (length before) most_cells short) refl)

    owes_told : (m : Loadable p) (Q : Query) → read m.declared.widths text ≡ accepted Q → most_cells ≤ length before
        → owed m.declared n text (length before)
        ≡ cond (settled (views_word (numbers n among m).0) (labels m.declared.views Q)) settlement (archives Q)
    unfolding owed_for
    owes_told m Q reads wide =
        let are = there m.declared.partitions (n - 1) [] (numbers n among m).1 in
        owed_by m (accepted Q) reads ∙ rw (le-ltb (length before) most_cells wide, are) refl

    pub told : {r : List ℕ} → Prepared p r → {count : ℕ} {lines : List ℕ} {reply : Result Telling Refusal} {after : List ℕ} → most_cells ≤ length before
        → ((m : Loadable p) → (Q : Query) × (read m.declared.widths text ≡ accepted Q) × PosedRows m.declared Q count lines)
        → AskedTold r (n - 1) count lines before reply after → ArchivesGiven p n text before reply after
    told made {reply = reply} {after} wide reads tells = record {
      unloaded = λ none. absurd (none l);
      loaded = λ m.
          let (Q, e, posed) = reads m in
          subst (Gives m.declared (n - 1) reply before after) (sym (owes_told m Q e wide))
          (tells m.declared p.tables (numbers n among m).0 Q (asked n among made m text Q e posed));
    }
