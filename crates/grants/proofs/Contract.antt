-- What is given for the labels of a query, over archives, and the contract case by case: the policy value, the partition, the text.
use mathlib.Core.Path.{◌≡◌, refl, subst, ◌∙◌}
use mathlib.Core.Bool.{Bool, true, false, cond}
use mathlib.Core.Option.{some}
use mathlib.Core.List.{List}
use Prim.Native.Nat.{ℕ, ◌-◌}
use native.Mathlib.Omega.{arith}
use lib.Dec.{T}
use lib.ListN.{length, get_elem?}
use Rattle.std.specs.Prelude.{Option, Result, Err}
use Rattle.theory.specs.Query.{Query}
use Rattle.theory.specs.Executable.Label.{labels}
use Rattle.theory.proofs.Lists.{below_place}
use Rattle.words.specs.TestBits.{test_bits, up_from}
use Rattle.words.proofs.Answers.{true_holds}
use Rattle.model.specs.Limits.{most_views, up_to}
use Rattle.model.specs.declared.Policy.{Policy}
use Rattle.model.specs.declared.Refusal.{Refusal}
use Rattle.model.proofs.Limits.{up_to_iff}
use Rattle.query_text.specs.Text.{refused, accepted, read}
use Rattle.query_text.proofs.Accepted.{accepted_well_read}
use Rattle.policy_text.specs.Declared.{Declared}
use Rattle.policy_text.specs.WellFormed.{WellFormed}
use Rattle.policy_text.specs.Policy.{views_word}
use Rattle.policy_text.specs.Abstract.{granted_at}
use Rattle.validity.specs.Loadable.{Loadable}
use Rattle.labelling.specs.declared.Labels.{Labels}
use Rattle.labelling.proofs.Loaded.{loaded_to, partition_word}
use Rattle.label_lists.specs.HoldsLabels.{HoldsLabels}
use Rattle.label_lists.proofs.Asked.{Labelled}
use Rattle.explanations.proofs.Explained.{declared_place}
use Rattle.grants.specs.Granting.{some_bare, nothing, list, owed_for, owed, Gives, GrantGiven}
use Rattle.grants.specs.Searching.{LabelsGranted}
use Rattle.grants.proofs.Added.{hopeless_bare, smallest_best}
use Rattle.grants.proofs.Replies.{turned_back}

-- ---- over archives

module _ (d : Declared) (good : WellFormed d) (i : ℕ) (vs : List ℕ) (at : get_elem? d.partitions i ≡ some vs)
    (text : List ℕ) (Q : Query) (reads : read d.widths text ≡ accepted Q) where
  -- what is given for the labels of a query is what is owed for it
  gives_grant : (r : Result (Option ℕ) Refusal) (before after : List ℕ) → LabelsGranted (views_word vs) (labels d.views Q) before r after
      → (b : Bool) → some_bare (labels d.views Q) ≡ b → Gives d i r before after (cond b (nothing Q) (list Q))
  gives_grant r before after g true e =
      let w = accepted_well_read d.widths text Q reads in
      let t = true_holds e in (g.bare t, hopeless_bare d good i vs at Q w.clear w.fits t)
  gives_grant r before after g false e =
      let w = accepted_well_read d.widths text Q reads in
      let (added, best, written) = g.held (λ t. subst T e t) in
      (added, smallest_best d good i vs at Q w.clear w.fits added best, written)

-- ---- the policy value, the partition and the text

module _ {p : Policy} {n : ℕ} {text before : List ℕ} where
  pub not_loaded : (Loadable p → ⊥) → GrantGiven p n text before (Err (record { number = 8; line = 0 })) before
  not_loaded m = record { unloaded = λ k. turned_back before 8 0; loaded = λ l. absurd (m l) }

  pub no_partition : Loadable p → up_to p.partition_count n ≡ false → GrantGiven p n text before (Err (record { number = 4; line = 0 })) before
  unfolding owed
  no_partition is e = record { unloaded = λ m. absurd (m is); loaded = λ l. rw (declared_place l n false e) (turned_back before 4 0) }

  module _ (is : Loadable p) (among : up_to p.partition_count n ≡ true) where
    pub text_refused : {m k : ℕ} → ((l : Loadable p) → read l.declared.widths text ≡ refused m k)
        → GrantGiven p n text before (Err (record { number = m; line = k })) before
    unfolding owed owed_for
    text_refused {m} {k} h = record {
      unloaded = λ f. absurd (f is);
      loaded = λ l. rw (declared_place l n true among, h l) (turned_back before m k);
    }

    pub text_granted : {r : Result (Option ℕ) Refusal} {after : List ℕ} {v : Labels} {granted : ℕ}
        → granted ≡ test_bits (granted_at p.grants (n - 1)) (up_from 0 most_views) → ((l : Loadable p) → Labelled l.declared text v)
        → ((ws : List ℕ) → HoldsLabels v.words ws → LabelsGranted granted ws before r after)
        → GrantGiven p n text before r after
    unfolding owed owed_for
    text_granted {r} {after} {v} {granted} views labelled given = record {
      unloaded = λ f. absurd (f is);
      loaded = λ l.
          let d = l.declared in
          let to = loaded_to l in
          let q = labelled l in
          let ws = labels d.views q.query in
          let (from, up) = (up_to_iff (length d.partitions) n).0 (true_holds (declared_place l n true among)) in
          let (vs, at) = below_place d.partitions (n - 1) (omega (arith, from, up)) in
          let word = views ∙ partition_word to (n - 1) vs at in
          let g = subst (λ (x : ℕ). LabelsGranted x ws before r after) word (given ws q.held) in
          rw (declared_place l n true among, q.reads)
          (gives_grant d to.good (n - 1) vs at text q.query q.reads r before after g (some_bare ws) refl);
    }
