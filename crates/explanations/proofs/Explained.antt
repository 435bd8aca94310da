-- The reply of an explanation and the buffer after it, case by case.
use mathlib.Core.Path.{◌≡◌, refl, sym, ap, subst, ◌∙◌}
use mathlib.Core.Bool.{Bool, true, false}
use mathlib.Core.List.{List, [], ◌++◌}
use Prim.Native.Nat.{ℕ, ◌-◌, ◌^◌, ◌≤◌, ◌<◌}
use native.Mathlib.Omega.{arith}
use borrow.Author.Tests.{lt-ltb, le-ltb}
use lib.ListN.{length, get_or, drop}
use Rattle.std.specs.Prelude.{Result, Err}
use Rattle.theory.specs.Query.{Query}
use Rattle.theory.specs.Executable.Label.{labels, settles}
use Rattle.theory.proofs.Lists.{at_place, below_place, there}
use Rattle.words.specs.Bits.{is_set, half_bits}
use Rattle.words.specs.TestBits.{test_bits, up_from}
use Rattle.words.proofs.TestBits.{tests_say}
use Rattle.words.proofs.Answers.{true_holds}
use Rattle.model.specs.Limits.{most_views, most_partitions, most_lines, up_to}
use Rattle.model.specs.declared.Policy.{Policy}
use Rattle.model.specs.declared.Refusal.{Refusal}
use Rattle.query_text.specs.Text.{refused, accepted, read}
use Rattle.query_text.proofs.Accepted.{accepted_well_read}
use Rattle.policy_text.specs.Declared.{Declared}
use Rattle.policy_text.specs.Policy.{views_word}
use Rattle.policy_text.specs.Abstract.{granted_at}
use Rattle.model.proofs.Limits.{up_to_iff}
use Rattle.validity.specs.Loadable.{Loadable}
use Rattle.word_list.specs.Value.{words_value}
use Rattle.labelling.specs.Settled.{settled, granted, settling}
use Rattle.labelling.specs.declared.Labels.{Labels}
use Rattle.word_list.specs.declared.Words.{Words}
use Rattle.word_list.proofs.Value.{count_is, word_is, words_are}
use Rattle.labelling.proofs.Partitions.{settled_settles, good_known}
use Rattle.labelling.proofs.Loaded.{loaded_to, partition_count, few_partitions, partition_word}
use Rattle.explain.specs.Explanation.{explained}
use Rattle.label_lists.specs.HoldsLabels.{HoldsLabels}
use Rattle.label_lists.proofs.Asked.{Labelled}
use Rattle.label_lists.proofs.Copied.{Copied}
use Rattle.explanations.specs.Explaining.{said_explaining, not_explained, explained_by, explain_reading, explain_under, Explains, ExplanationGiven}
use Rattle.explanations.specs.declared.Explaining.{Explaining}
use Rattle.explanations.proofs.Narrow.{AtMost, Narrow, each_most, most_length, most_get, explained_most}

not_explains : (before : List ℕ) (n k : ℕ) → Explains (Err (record { number = n; line = k })) before (not_explained before n k)
unfolding said_explaining not_explained
not_explains before n k = record { reply = refl; buffer = refl }

-- ---- the words and the buffer

module _ {l : Words} (granted : ℕ) (ws : List ℕ) (h : HoldsLabels l ws) {w : Words} (value : w ≡ words_value (explained granted ws)) where
  few_words : AtMost Narrow most_lines (explained granted ws)
  few_words = explained_most granted (each_most most_lines ws h.few h.narrow)

  as_many : w.count ≡ length (explained granted ws)
  as_many = count_is w (explained granted ws) value

  pub words_count : w.count ≤ most_lines
  words_count = omega (arith, as_many, most_length few_words)

  pub words_narrow : (i : ℕ) → get_or w.words i 0 < 2 ^ half_bits
  words_narrow i =
      subst (λ (x : ℕ). x < 2 ^ half_bits) (sym (word_is w (explained granted ws) value i)) (most_get few_words i)

  pub explains_short : {before : List ℕ} → length before < w.count
      → Explains (Err (record { number = 10; line = 0 })) before (explained_by before (settled granted ws) (explained granted ws))
  unfolding explained_by
  explains_short {before} g =
      rw (lt-ltb (length before) (length (explained granted ws)) (omega (arith, as_many))) (not_explains before 10 0)

  pub explains_given : (before : List ℕ) {after : List ℕ} {r : Result Explaining Refusal} {b : Bool}
      → said_explaining r ≡ record { given = true; settles = b; count = w.count; number = 0; line = 0 } → b ≡ settled granted ws
      → w.count ≤ length before → after ≡ Copied w.words w.count before
      → Explains r after (explained_by before (settled granted ws) (explained granted ws))
  unfolding explained_by
  explains_given before t s g c =
      rw (le-ltb (length before) (length (explained granted ws)) (omega (arith, as_many)))
      (record {
        reply = t ∙ (λ i. record { given = true; settles = s i; count = as_many i; number = 0; line = 0 });
        buffer =
            c ∙ ap (λ (v : List ℕ). v ++ drop w.count before) (words_are w (explained granted ws) value)
            ∙ ap (λ (k : ℕ). explained granted ws ++ drop k before) as_many;
      })

-- ---- the partition

module _ {p : Policy} (l : Loadable p) where
  pub partition_place : (n : ℕ) → up_to p.partition_count n ≡ true → (1 ≤ n) × (n ≤ most_partitions)
  partition_place n e =
      let b = (up_to_iff p.partition_count n).0 (true_holds e) in
      (b.0, omega (arith, b.1, few_partitions (loaded_to l)))

  pub declared_place : (n : ℕ) (b : Bool) → up_to p.partition_count n ≡ b → up_to (length l.declared.partitions) n ≡ b
  declared_place n b e = ap (λ (k : ℕ). up_to k n) (sym (partition_count (loaded_to l))) ∙ e

  -- the word of the partition's views, and what the word of settling partitions says of it
  partition_says : (n : ℕ) → up_to p.partition_count n ≡ true → (Q : Query) (text : List ℕ)
      → read l.declared.widths text ≡ accepted Q →
      let d = l.declared in
      let views = views_word (get_or d.partitions (n - 1) []) in
      (test_bits (granted_at p.grants (n - 1)) (up_from 0 most_views) ≡ views)
      × (is_set (settling d Q) (n - 1) ≡ settled views (labels d.views Q))
  unfolding settling
  partition_says n e Q text reads =
      let d = l.declared in
      let to = loaded_to l in
      let (from, up) = (up_to_iff (length d.partitions) n).0 (true_holds (declared_place n true e)) in
      let (ns, at) = below_place d.partitions (n - 1) (omega (arith, from, up)) in
      let known = good_known d.views ns (to.good.partitions.each ns (at_place d.partitions (n - 1) at)) in
      let fits = (accepted_well_read d.widths text Q reads).fits in
      rw (there d.partitions (n - 1) [] at) (
        partition_word to (n - 1) ns at,
        tests_say (λ vs. settles (granted d.views vs) Q) d.partitions (n - 1) ns at
            ∙ sym (settled_settles d to.good ns known Q fits),
      )

-- the views gathered for partition n, and what the word of settling partitions says of it
pub record Gathered (p : Policy) (n : ℕ) (v : Labels) (granted : ℕ) (b : Bool) : Type 0 where
  pub among : up_to p.partition_count n ≡ true
  pub views : granted ≡ test_bits (granted_at p.grants (n - 1)) (up_from 0 most_views)
  pub says : b ≡ is_set v.settling (n - 1)

module _ {p : Policy} {n : ℕ} {text : List ℕ} {v : Labels} {granted : ℕ} {b : Bool}
    (g : Gathered p n v granted b) (l : Loadable p) (q : Labelled l.declared text v) where
  abbrev d : Declared
  d = l.declared

  views_are : granted ≡ views_word (get_or d.partitions (n - 1) [])
  views_are = g.views ∙ (partition_says l n g.among q.query text q.reads).0

  pub settled_same : b ≡ settled granted (labels d.views q.query)
  settled_same =
      g.says ∙ ap (λ (m : ℕ). is_set m (n - 1)) q.settles ∙ (partition_says l n g.among q.query text q.reads).1
      ∙ ap (λ (m : ℕ). settled m (labels d.views q.query)) (sym views_are)

-- ---- the policy value, the partition and the text

module _ {p : Policy} {n : ℕ} {text before : List ℕ} where
  pub unexplained : (Loadable p → ⊥) → ExplanationGiven p n text before (Err (record { number = 8; line = 0 })) before
  unexplained m = record { unloaded = λ k. not_explains before 8 0; loaded = λ l. absurd (m l) }

  pub no_partition : Loadable p → up_to p.partition_count n ≡ false → ExplanationGiven p n text before (Err (record { number = 4; line = 0 })) before
  unfolding explain_under
  no_partition is e = record { unloaded = λ m. absurd (m is); loaded = λ l. rw (declared_place l n false e) (not_explains before 4 0) }

  pub text_refused : {m k : ℕ} → Loadable p → up_to p.partition_count n ≡ true
      → ((l : Loadable p) → read l.declared.widths text ≡ refused m k) → ExplanationGiven p n text before (Err (record { number = m; line = k })) before
  unfolding explain_under explain_reading
  text_refused {m} {k} is e h = record {
    unloaded = λ f. absurd (f is);
    loaded = λ l. rw (declared_place l n true e, h l) (not_explains before m k);
  }

  pub text_explained : {r : Result Explaining Refusal} {after : List ℕ} {v : Labels} {granted : ℕ} {b : Bool} → Loadable p → Gathered p n v granted b
      → ((l : Loadable p) → Labelled l.declared text v)
      → ((ws : List ℕ) → HoldsLabels v.words ws → b ≡ settled granted ws
      → Explains r after (explained_by before (settled granted ws) (explained granted ws)))
      → ExplanationGiven p n text before r after
  unfolding explain_under explain_reading
  text_explained is g h given = record {
    unloaded = λ m. absurd (m is);
    loaded = λ l.
        let q = h l in
        rw (declared_place l n true g.among, q.reads, ← views_are g l q)
        (given (labels l.declared.views q.query) q.held (settled_same g l q));
  }
