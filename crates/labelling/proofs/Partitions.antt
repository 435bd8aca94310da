-- Known views settle a query, by covering and by its labels, exactly when they determine it; so does a partition of the policy.
use mathlib.Core.Path.{◌≡◌, sym, ap, subst, ◌∙◌}
use mathlib.Core.Logic.Iff
use mathlib.Core.Logic.{◌↔◌}
use mathlib.Core.List.Memᴰ
use mathlib.Core.List.{List, []}
use mathlib.Core.Option.{some, some-injective}
use Prim.Native.Nat.{ℕ, ◌+◌, ◌-◌, ◌/◌, ◌^◌, ◌≤◌, ◌<◌}
use native.Mathlib.Omega.{arith}
use lib.Dec.{T}
use lib.ListN.{length, get_elem?}
use Rattle.theory.specs.Query.{Line, Query, ◌∈◌, NoClash}
use Rattle.theory.specs.Archive.{AllFit, Determines, DeterminedBy}
use Rattle.theory.specs.Executable.Test.{any}
use Rattle.theory.specs.Executable.Cover.{covers}
use Rattle.theory.specs.Executable.Reduce.{reduce}
use Rattle.theory.specs.Executable.Show.{show}
use Rattle.theory.specs.Executable.Label.{view_bits, label, labels, settles}
use Rattle.theory.proofs.Lists.{at_place, below_place, there}
use Rattle.theory.proofs.Executable.Test.{same_test, all_map, all_same}
use Rattle.theory.proofs.Executable.Label.{view_bits_bit}
use Rattle.theory.proofs.Determine.{settles_iff_determines, no_view_determines}
use Rattle.words.specs.Bits.{bit, half_bits}
use Rattle.words.specs.Sets.{meet}
use Rattle.words.proofs.Parts.{high_part}
use Rattle.words.proofs.TestBits.{tests_below}
use Rattle.words.proofs.Tests.{meet_iff}
use Rattle.model.specs.Limits.{most_views}
use Rattle.query_text.specs.Text.{accepted, read}
use Rattle.query_text.proofs.Accepted.{accepted_well_read}
use Rattle.policy_text.specs.Declared.{Declared, Grants, PartitionDetermines}
use Rattle.policy_text.specs.WellFormed.{WellFormed, GoodPartition}
use Rattle.policy_text.specs.Policy.{views_word}
use Rattle.policy_text.proofs.Grants.{word_bit, good_below}
use Rattle.words.proofs.Answers.{true_holds, holds_true}
use Rattle.entering.specs.Agree.{line_at}
use Rattle.labelling.specs.Settled.{holds_one, settled, granted, answers, Known, HasNumber}
use Rattle.labelling.proofs.Granted.{covering_answers, answers_covering}
use Rattle.labelling.proofs.Lines.{labelled_fits}

-- ---- one label

module _ (views : List Line) (ns : List ℕ) (few : length views ≤ most_views) (known : Known views ns)
    (A : Line) (small : A.table < 2 ^ half_bits) where
  high : label views A / 2 ^ half_bits ≡ view_bits views A
  unfolding label
  high = high_part half_bits (view_bits views A) small

  holds_granted : meet 64 (label views A / 2 ^ half_bits) (views_word ns) ≡ answers views A ns
  holds_granted = same_test _ _ held given
    where
      held : T (meet 64 (label views A / 2 ^ half_bits) (views_word ns)) → T (answers views A ns)
      held t =
          let (k, _, x, y) = (meet_iff 64 (label views A / 2 ^ half_bits) (views_word ns)).0 (sym (holds_true _ t)) in
          let (v, at, c) = (view_bits_bit views A k).0 (sym (ap (λ (w : ℕ). bit w k) high) ∙ x) in
          covering_answers views ns A (record { place = k; view = v; at = at; listed = ((word_bit ns k).0 y).1; covering = c })

      given : T (answers views A ns) → T (meet 64 (label views A / 2 ^ half_bits) (views_word ns))
      given t =
          let c = answers_covering views ns A known t in
          let k = c.place in
          let b : k < most_views = omega (arith, (known (k + 1) c.listed).1, few) in
          let x = ap (λ (w : ℕ). bit w k) high ∙ (view_bits_bit views A k).1 (c.view, c.at, c.covering) in
          true_holds
          ((meet_iff 64 (label views A / 2 ^ half_bits) (views_word ns)).1 (k, omega (arith, b), x, (word_bit ns k).1 (b, c.listed)))

-- ---- all labels

-- the views of a label are views of the policy
pub label_views : (d : Declared) → WellFormed d → (Q : Query) → AllFit d.widths Q → (w : ℕ) → w ∈ labels d.views Q
    → w / 2 ^ half_bits < 2 ^ length d.views
unfolding labels label
label_views d good Q fits w m =
    let (A, i, e) = Memᴰ.of_map (label d.views) (show (reduce Q)) m in
    let small : A.table < 2 ^ half_bits = omega (arith, (labelled_fits d.widths Q fits A i).last, good.tables.few) in
    let views = ap (λ (x : ℕ). x / 2 ^ half_bits) (sym e) ∙ high_part half_bits (view_bits d.views A) small in
    subst (λ (x : ℕ). x < 2 ^ length d.views) (sym views) (tests_below (λ v. covers v A) d.views)

module _ (d : Declared) (good : WellFormed d) (ns : List ℕ) (known : Known d.views ns)
    (Q : Query) (fits : AllFit d.widths Q) where
  pub settled_settles : settled (views_word ns) (labels d.views Q) ≡ settles (granted d.views ns) Q
  unfolding settled holds_one labels settles
  settled_settles =
      all_map (λ w. meet 64 (w / 2 ^ half_bits) (views_word ns)) (label d.views) (show (reduce Q))
      ∙ all_same (λ A. meet 64 (label d.views A / 2 ^ half_bits) (views_word ns)) (λ A. any (λ v. covers v A) (granted d.views ns))
      (show (reduce Q))
      (λ A m.
      let f = labelled_fits d.widths Q fits A m in
      holds_granted d.views ns good.views.few known A (omega (arith, f.last, good.tables.few)))

  -- "A partition determines a query …": any two archives that agree on its views agree on the query
  pub settled_iff_determines : NoClash Q
      → T (settled (views_word ns) (labels d.views Q)) ↔ Determines d.widths (granted d.views ns) Q
  settled_iff_determines clear = rw settled_settles (settles_iff_determines d.widths (granted d.views ns) Q clear fits)

-- ---- views by their numbers

module _ (views : List Line) (ns : List ℕ) (known : Known views ns) where
  pub granted_iff : (v : Line) → HasNumber views ns v ↔ (v ∈ granted views ns)
  unfolding granted line_at
  granted_iff v = (
    λ g.
        subst (λ (u : Line). u ∈ granted views ns) (there views (g.number - 1) _ g.view)
        (Memᴰ.map (λ k. line_at views (k - 1)) g.listed),
    λ m.
        let (k, i, e) = Memᴰ.of_map (λ k. line_at views (k - 1)) ns m in
        let (from, to) = known k i in
        let (u, at) = below_place views (k - 1) (omega (arith, from, to)) in
        record {
          number = k;
          listed = i;
          from_one = from;
          view = at ∙ ap some (sym (there views (k - 1) _ at) ∙ e);
        },
  )

  determines_granted : (widths : List ℕ) (Q : Query) → DeterminedBy widths (HasNumber views ns) Q ↔ Determines widths (granted views ns) Q
  determines_granted widths Q = (
    λ p D E fit_d fit_e agree. p D E fit_d fit_e (λ v g. agree v ((granted_iff v).0 g)),
    λ p D E fit_d fit_e agree. p D E fit_d fit_e (λ v m. agree v ((granted_iff v).1 m)),
  )

  -- Known views settle a query exactly when they determine it: by covering, as deciding has it,
  pub settles_iff_numbered : (widths : List ℕ) (Q : Query) → NoClash Q → AllFit widths Q
      → T (settles (granted views ns) Q) ↔ DeterminedBy widths (HasNumber views ns) Q
  settles_iff_numbered widths Q clear fits =
      let s = settles_iff_determines widths (granted views ns) Q clear fits in
      let k = determines_granted widths Q in (λ t. k.1 (s.0 t), λ p. s.1 (k.0 p))

-- and by the words of the labels, as explaining has it.
pub settled_iff_numbered : (d : Declared) → WellFormed d → (ns : List ℕ) → Known d.views ns
    → (Q : Query) → NoClash Q → AllFit d.widths Q
    → T (settled (views_word ns) (labels d.views Q)) ↔ DeterminedBy d.widths (HasNumber d.views ns) Q
settled_iff_numbered d good ns known Q clear fits =
    rw (settled_settles d good ns known Q fits) (settles_iff_numbered d.views ns known d.widths Q clear fits)

-- ---- a partition of the policy

-- its views are known
pub good_known : (views : List Line) (vs : List ℕ) → GoodPartition (length views) vs → Known views vs
good_known views vs g = good_below (length views) vs g

module _ (d : Declared) (good : WellFormed d) (n : ℕ) (vs : List ℕ) (at : get_elem? d.partitions n ≡ some vs) where
  pub known : Known d.views vs
  known = good_known d.views vs (good.partitions.each vs (at_place d.partitions n at))

  pub grants_iff : (v : Line) → Grants d n v ↔ HasNumber d.views vs v
  grants_iff v = (
    λ g.
        let same : g.numbers ≡ vs = some-injective g.numbers vs (sym g.partition ∙ at) in
        record {
          number = g.number;
          listed = subst (λ (l : List ℕ). g.number ∈ l) same g.listed;
          from_one = g.from_one;
          view = g.view;
        },
    λ k. record { numbers = vs; partition = at; number = k.number; listed = k.listed; from_one = k.from_one; view = k.view },
  )

  determines_numbered : (Q : Query) → DeterminedBy d.widths (HasNumber d.views vs) Q ↔ PartitionDetermines d n Q
  determines_numbered Q = (
    λ p D E fit_d fit_e agree. p D E fit_d fit_e (λ v k. agree v ((grants_iff v).1 k)),
    λ p D E fit_d fit_e agree. p D E fit_d fit_e (λ v g. agree v ((grants_iff v).0 g)),
  )

  module _ (Q : Query) (clear : NoClash Q) (fits : AllFit d.widths Q) where
    pub settles_iff_partition : T (settles (granted d.views vs) Q) ↔ PartitionDetermines d n Q
    settles_iff_partition = Iff.trans (settles_iff_numbered d.views vs known d.widths Q clear fits) (determines_numbered Q)

    pub settled_iff_partition : T (settled (views_word vs) (labels d.views Q)) ↔ PartitionDetermines d n Q
    settled_iff_partition = Iff.trans (settled_iff_numbered d good vs known Q clear fits) (determines_numbered Q)

-- "A partition may list no view": it determines no query
pub no_views_no_query : (d : Declared) → WellFormed d → (n : ℕ) → get_elem? d.partitions n ≡ some [] → (text : List ℕ) (Q : Query)
    → read d.widths text ≡ accepted Q → PartitionDetermines d n Q → ⊥
unfolding granted
no_views_no_query d good n at text Q reads p =
    let w = accepted_well_read d.widths text Q reads in
    let (A, first) = below_place Q 0 w.nonempty in
    let none = (determines_granted d.views [] (known d good n [] at) d.widths Q).0 ((determines_numbered d good n [] at Q).1 p) in
    no_view_determines d.widths Q A w.clear w.fits (at_place Q 0 first) none
