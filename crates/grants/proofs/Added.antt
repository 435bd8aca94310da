-- Views added to a partition: with them it determines a query exactly when they hit the labels that hold none of its views. So the best
-- list of views for these labels is the smallest extra grant, and there is none where a label holds no view.
use mathlib.Core.Path.{◌≡◌, refl, sym, ap, subst, ◌∙◌}
use mathlib.Core.Logic.{◌↔◌, ◌⊎◌, inl, inr, ⊎_elim}
use mathlib.Core.Bool.{Bool, true, false}
use mathlib.Core.List.Memᴰ
use mathlib.Core.List.{List, [], ◌++◌}
use mathlib.Core.Option.{some}
use Prim.Native.Nat.{ℕ, ◌+◌, ◌-◌, ◌^◌, ◌<◌}
use native.Mathlib.Omega.{arith}
use borrow.Author.Tests.{eqb-true}
use lib.Dec.{T, eqb}
use lib.ListN.{length, get_elem?}
use Rattle.theory.specs.Query.{Line, Query, ◌∈◌, NoClash}
use Rattle.theory.specs.Archive.{AllFit, DeterminedBy}
use Rattle.theory.specs.Executable.Label.{labels}
use Rattle.theory.proofs.Executable.Test.{all_iff, any_iff}
use Rattle.words.specs.Bits.{bit}
use Rattle.words.proofs.Answers.{true_holds, holds_true}
use Rattle.words.proofs.Bits.{bit_zero, bit_within}
use Rattle.words.proofs.Tests.{meet_iff}
use Rattle.policy_text.specs.Declared.{Declared, Grants, PartitionDetermines}
use Rattle.policy_text.specs.WellFormed.{WellFormed}
use Rattle.policy_text.specs.Policy.{views_word}
use Rattle.policy_text.proofs.Grants.{word_bit}
use Rattle.labelling.specs.Settled.{holds_one, settled, Known, HasNumber}
use Rattle.labelling.proofs.Partitions.{known, grants_iff, settled_iff_numbered, label_views}
use Rattle.explain.specs.Explanation.{views_of, lacking}
use Rattle.hitting.specs.Best.{Numbered, Hits}
use Rattle.grants.specs.Smallest.{DeterminesWith, Smallest, Hopeless}
use Rattle.grants.specs.Granting.{some_bare}
use Rattle.grants.specs.Searching.{hits_of, BestFor}
use Rattle.grants.proofs.Lacking.{lacking_iff, bare_lacking}
use Rattle.grants.proofs.HitWords.{HitsWords, hits_iff, hit_word, sum_nothing}

-- ---- the words

-- a label holds one of some views
holds_iff : (ns : List ℕ) → Numbered ns → (w : ℕ) → T (holds_one (views_word ns) w) ↔ ((n : ℕ) × (n ∈ ns) × (bit (views_of w) (n - 1) ≡ 1))
unfolding holds_one views_of
holds_iff ns numbered w =
    let both = meet_iff 64 (views_of w) (views_word ns) in (
      λ t.
          let (k, _, x, y) = both.0 (sym (holds_true _ t)) in
          let back : k + 1 - 1 ≡ k = omega arith in
          (k + 1, ((word_bit ns k).0 y).1, rw back x),
      λ r.
          let (from, to) = numbered r.0 r.1 in
          let k = r.0 - 1 in
          let next : r.0 ≡ k + 1 = omega (arith, from) in
          let y = (word_bit ns k).1 (omega (arith, from, to), subst (λ (n : ℕ). n ∈ ns) next r.1) in
          true_holds (both.1 (k, omega (arith, to), r.2, y)),
    )

both_numbered : (k l : List ℕ) → Numbered k → Numbered l → Numbered (k ++ l)
both_numbered k l a b n m = ⊎_elim (a n) (b n) (Memᴰ.append_cases k m)

module _ (vs ns ws : List ℕ) (a : Numbered vs) (b : Numbered ns) where
  -- a label holds a view of either list
  either_holds : (w : ℕ) → T (holds_one (views_word (vs ++ ns)) w)
      ↔ (T (holds_one (views_word vs) w) ⊎ ((n : ℕ) × (n ∈ ns) × (bit (views_of w) (n - 1) ≡ 1)))
  either_holds w =
      let c = holds_iff (vs ++ ns) (both_numbered vs ns a b) w in (
        λ t.
            let (n, m, s) = c.0 t in
            ⊎_elim (λ i. inl ((holds_iff vs a w).1 (n, i, s))) (λ i. inr (n, i, s)) (Memᴰ.append_cases vs m),
        ⊎_elim (λ t. let (n, m, s) = (holds_iff vs a w).0 t in c.1 (n, Memᴰ.append_left ns m, s))
            (λ r. c.1 (r.0, Memᴰ.append_right vs r.1, r.2)),
      )

  settled_added : T (settled (views_word (vs ++ ns)) ws) ↔ HitsWords (lacking (views_word vs) ws) ns
  unfolding settled
  settled_added =
      let each = all_iff (holds_one (views_word (vs ++ ns))) ws in (
        λ t v m.
            let (w, i, e, none) = (lacking_iff (views_word vs) ws v).0 m in
            let (n, j, s) = ⊎_elim (λ h. absurd (none h)) (λ r. r) ((either_holds w).0 (each.0 t w i)) in
            (n, j, subst (λ (x : ℕ). bit x (n - 1) ≡ 1) (sym e) s),
        λ hit. each.1 (λ w i. (either_holds w).1 (go hit w i (holds_one (views_word vs) w) refl)),
      )
    where
      go : HitsWords (lacking (views_word vs) ws) ns → (w : ℕ) → w ∈ ws → (t : Bool) → t ≡ holds_one (views_word vs) w
          → T (holds_one (views_word vs) w) ⊎ ((n : ℕ) × (n ∈ ns) × (bit (views_of w) (n - 1) ≡ 1))
      go hit w i true e = inl (subst T e tt)
      go hit w i false e = inr (hit (views_of w) ((lacking_iff (views_word vs) ws (views_of w)).1 (w, i, refl, λ h. subst T (sym e) h)))

-- ---- over archives

known_numbered : {d : Declared} → WellFormed d → (ns : List ℕ) → Known d.views ns → Numbered ns
known_numbered good ns k n m = let (from, to) = k n m in (from, omega (arith, to, good.views.few))

-- the number stands in another list
relisted : {views : List Line} {ns ms : List ℕ} {v : Line} (h : HasNumber views ns v) → h.number ∈ ms → HasNumber views ms v
relisted h m = record { number = h.number; listed = m; from_one = h.from_one; view = h.view }

module _ (d : Declared) (good : WellFormed d) (i : ℕ) (vs : List ℕ) (at : get_elem? d.partitions i ≡ some vs) where
  -- a view of the partition or an added one
  with_iff : (ns : List ℕ) (v : Line) → (Grants d i v ⊎ HasNumber d.views ns v) ↔ HasNumber d.views (vs ++ ns) v
  with_iff ns v = (
    ⊎_elim (λ g. let h = (grants_iff d good i vs at v).0 g in relisted h (Memᴰ.append_left ns h.listed))
        (λ h. relisted h (Memᴰ.append_right vs h.listed)),
    λ h.
        ⊎_elim (λ m. inl ((grants_iff d good i vs at v).1 (relisted h m))) (λ m. inr (relisted h m))
        (Memᴰ.append_cases vs h.listed),
  )

  with_numbered : (ns : List ℕ) (Q : Query) → DeterminedBy d.widths (HasNumber d.views (vs ++ ns)) Q ↔ DeterminesWith d i ns Q
  with_numbered ns Q = (
    λ p D E fit_d fit_e agree. p D E fit_d fit_e (λ v h. agree v ((with_iff ns v).1 h)),
    λ p D E fit_d fit_e agree. p D E fit_d fit_e (λ v h. agree v ((with_iff ns v).0 h)),
  )

  module _ (Q : Query) (clear : NoClash Q) (fits : AllFit d.widths Q) where
    -- the views of the labels that hold none of the partition's
    abbrev lacks : List ℕ
    lacks = lacking (views_word vs) (labels d.views Q)

    pub determines_with_iff : (ns : List ℕ) → Known d.views ns → DeterminesWith d i ns Q ↔ HitsWords lacks ns
    determines_with_iff ns k =
        let own = known d good i vs at in
        let all : Known d.views (vs ++ ns) = λ n m. ⊎_elim (own n) (k n) (Memᴰ.append_cases vs m) in
        let s = settled_iff_numbered d good (vs ++ ns) all Q clear fits in
        let n = with_numbered ns Q in
        let h = settled_added vs ns (labels d.views Q) (known_numbered good vs own) (known_numbered good ns k) in
        (λ p. h.0 (s.1 (n.1 p)), λ p. n.0 (s.0 (h.1 p)))

    -- no view hits a label without views
    pub hopeless_bare : T (some_bare (labels d.views Q)) → Hopeless d i Q
    hopeless_bare t ns k p =
        let (v, m, z) = (any_iff (eqb 0) lacks).0 (rw bare_lacking t) in
        let (n, _, b) = (determines_with_iff ns k).0 p v m in
        omega (arith, bit_zero (n - 1), ap (λ (w : ℕ). bit w (n - 1)) (eqb-true 0 v (sym (holds_true _ z))), b)

    pub smallest_best : (added : List ℕ) → BestFor lacks added → Smallest d i Q added
    unfolding views_of
    smallest_best added best = record {
      known = there;
      ascending = best.ascending;
      enough = (determines_with_iff added there).1 ((hits_iff lacks added best.numbered).0 best.hits_all);
      fewest = λ ns k p. best.fewest ns (known_numbered good ns k) (hits ns k p);
      first = λ ns k p e.
          best.first ns (known_numbered good ns k) (hits ns k p) e (sum_nothing ns ∙ sym (sum_nothing added));
    }
      where
        -- each of its views is useful, so it stands in a label
        there : Known d.views added
        there n m =
            let (from, to) = best.numbered n m in
            let (u, j, b) = hit_word lacks n from to (best.useful n m) in
            let (w, l, e, _) = (lacking_iff (views_word vs) (labels d.views Q) u).0 j in
            let small = subst (λ (x : ℕ). x < 2 ^ length d.views) (sym e) (label_views d good Q fits w l) in
            (from, omega (arith, from, bit_within {n = u} (length d.views) (n - 1) small b))

        hits : (ns : List ℕ) → Known d.views ns → DeterminesWith d i ns Q → Hits (hits_of lacks) (2 ^ length lacks - 1) ns
        hits ns k p = (hits_iff lacks ns (known_numbered good ns k)).1 ((determines_with_iff ns k).0 p)

-- ---- any policy, partition and query

pub determines_with_none : (d : Declared) (i : ℕ) (Q : Query) → DeterminesWith d i [] Q ↔ PartitionDetermines d i Q
determines_with_none d i Q = (
  λ p D E fit_d fit_e agree.
      p D E fit_d fit_e (λ v. ⊎_elim (λ g. agree v g) (λ h. absurd (Memᴰ.not-nil h.listed))),
  λ p D E fit_d fit_e agree. p D E fit_d fit_e (λ v g. agree v (inl g)),
)

-- a smallest grant is one that helps
pub smallest_exists_not_hopeless : (d : Declared) (i : ℕ) (Q : Query) (added : List ℕ) → Smallest d i Q added → Hopeless d i Q → ⊥
smallest_exists_not_hopeless d i Q added s hopeless = hopeless added s.known s.enough
