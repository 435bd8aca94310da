-- A line that could go to another goes by itself exactly when the other has one term wherever it has one hidden variable twice.
use mathlib.Core.Path.{◌≡◌, refl, sym, ap, subst, ◌∙◌}
use mathlib.Core.Logic.{◌↔◌, ⊎_elim}
use mathlib.Core.Bool.{Bool, true, false, not, ◌&&◌}
use mathlib.Core.List.{List}
use Prim.Native.Nat.{ℕ, ◌+◌, ◌≤◌, ◌<◌}
use native.Mathlib.Decide.{ℕ_discrete, dec_lt}
use native.Mathlib.Omega.{arith}
use borrow.Author.Tests.{not-true, not-false}
use lib.Bits.{bit_and}
use lib.Dec.{T}
use lib.ListN.{length}
use mir.Facts.{eqb_yes, yes_eqb}
use Rattle.theory.specs.Query.{hidden, Query}
use Rattle.theory.specs.Query.{Line as TheLine}
use Rattle.theory.specs.Cover.{at}
use Rattle.theory.proofs.Executable.Test.{and_iff}
use Rattle.words.specs.Bits.{bit, is_set}
use Rattle.words.proofs.Answers.{true_holds}
use Rattle.words.proofs.Bits.{bit_zero}
use Rattle.words.proofs.Marks.{by_test}
use Rattle.words.proofs.Masks.{bit_and_iff}
use Rattle.model.specs.Limits.{most_columns}
use Rattle.model.specs.Value.{same_term, term_value, line_value}
use Rattle.model.specs.Rows.{term_at, laid_term}
use Rattle.model.specs.declared.Term.{Term}
use Rattle.entering.specs.Agree.{line_at}
use Rattle.entering.specs.Showing.{hidden_term}
use Rattle.entering.specs.Worded.{twice_word, HiddenAt, Given}
use Rattle.reduce.specs.Columns.{FirstColumn}
use Rattle.reduce.specs.LineTargets.{KeepsOwn}
use Rattle.reduce.specs.PairNumbers.{line_of, target_of}
use Rattle.reduce.specs.Pairs.{Going, Goings, Candidate, CandidateWord}
use Rattle.reduce.proofs.Agree.{Goes, goes_iff, agree_iff}
use Rattle.model.proofs.Same.{same_term_iff}
use Rattle.model.proofs.Values.{value_same}
use Rattle.entering.proofs.HiddenBits.{at_hidden, hidden_at}
use Rattle.entering.proofs.Lines.{laid_few, small_line}
use Rattle.reduce.proofs.FirstColumns.{first_unique}
use Rattle.reduce.proofs.LaidColumns.{hidden_or_not, goes_same, joint_columns, laid_column}
use Rattle.reduce.proofs.Looked.{Sieved, sieved_none, sieved_all}
use Rattle.reduce.proofs.PairNumbers.{moving, moving_set}

-- ---- by the first column of a variable

module _ (rows : List ℕ) (i t w : ℕ) where
  -- column p of row i has a variable of the word
  abbrev Own : ℕ → Type 0
  Own p = T (hidden_term (laid_term rows i p)) × (bit w (laid_term rows i p).number ≡ 1)

  -- row t has in the columns before p what it has in the first column of the variable
  pub record OwnTo (p : ℕ) : Type 0 where
    pub own : (k : ℕ) → k < p → Own k → (q : ℕ) × FirstColumn rows i (laid_term rows i k) q × (laid_term rows t k ≡ laid_term rows t q)

  own_more : {p : ℕ} → OwnTo p → (Own p → (q : ℕ) × FirstColumn rows i (laid_term rows i p) q × (laid_term rows t p ≡ laid_term rows t q))
      → OwnTo (p + 1)
  own_more {p} o f = record { own = λ k l h. go k l h (ℕ_discrete k p) }
    where
      go : (k : ℕ) → k < p + 1 → Own k → Dec (k ≡ p)
          → (q : ℕ) × FirstColumn rows i (laid_term rows i k) q × (laid_term rows t k ≡ laid_term rows t q)
      go k l h (yes e) =
          subst (λ (x : ℕ). Own x → (q : ℕ) × FirstColumn rows i (laid_term rows i x) q × (laid_term rows t x ≡ laid_term rows t q))
          (sym e) f h
      go k l h (no n) = o.own k (omega arith) h

  pub own_all : OwnTo most_columns → KeepsOwn rows i t w
  own_all o p q b d h s e =
      let (x, f, u) = o.own p b (h, s) in
      let (y, g, v) = o.own q d (rw e at h, rw e at s) in
      let one : x ≡ y = first_unique p b e (rw e at f) g in
      u ∙ ap (laid_term rows t) one ∙ sym v

  own_broken : {p q : ℕ} → p < most_columns → Own p → FirstColumn rows i (laid_term rows i p) q
      → (laid_term rows t p ≡ laid_term rows t q → ⊥) → KeepsOwn rows i t w → ⊥
  own_broken {p} {q} b h f n k = n (k p q b f.below h.0 h.1 (sym (f.here p b refl)))

  -- no variable stands in two columns
  pub own_nothing : w ≡ 0 → KeepsOwn rows i t w
  own_nothing z p q b d h s e = absurd (omega (arith, bit_zero (laid_term rows i p).number, rw z at s))

  -- the terms and tests of one column, as they are read
  module _ (p : ℕ) {x : Term} (on : Bool) (ex : x ≡ laid_term rows i p) (eo : on ≡ (hidden_term x && is_set w x.number)) where
    own_is : T on ↔ Own p
    own_is =
        let t = laid_term rows i p in
        let a = and_iff (hidden_term t) (is_set w t.number) in
        by_test (rw ex at eo) (λ h. let (y, z) = a.0 h in (y, eqb_yes z), λ h. a.1 (h.0, yes_eqb h.1))

    pub own_skipped : on ≡ false → OwnTo p → OwnTo (p + 1)
    own_skipped e o = own_more o (λ h. absurd (subst T e (own_is.1 h)))

    module _ {q : ℕ} {u v : Term} (same : Bool) (first : FirstColumn rows i x q) (eu : u ≡ laid_term rows t p) (ev : v ≡ laid_term rows t q)
        (es : same ≡ same_term u v) where
      same_is : T same ↔ (laid_term rows t p ≡ laid_term rows t q)
      same_is = by_test (rw (eu, ev) at es) (same_term_iff (laid_term rows t p) (laid_term rows t q))

      pub own_passed : not same ≡ false → OwnTo p → OwnTo (p + 1)
      own_passed e o =
          own_more o (λ h. (q, subst (λ (y : Term). FirstColumn rows i y q) ex first, same_is.0 (true_holds (not-false same e))))

      pub own_failed : p < most_columns → on ≡ true → not same ≡ true → KeepsOwn rows i t w → ⊥
      own_failed b e n =
          own_broken b (own_is.0 (true_holds e)) (subst (λ (y : Term). FirstColumn rows i y q) ex first)
          (λ h. subst T (not-true same n) (same_is.1 h))

-- ---- two lines

-- S has one term where A has one hidden variable twice
abbrev Twice : TheLine → TheLine → Type 0
Twice A S = (n p q : ℕ) → p < q → HiddenAt A n p → HiddenAt A n q → at S p ≡ at S q

twice_columns : {A S : TheLine} → Goes A S → Twice A S → (p q : ℕ) → p < length A.columns → q < length A.columns
    → at A p ≡ at A q → at S p ≡ at S q
twice_columns {A} {S} g f p q l k e = ⊎_elim (λ r. apart r.0 r.1 (dec_lt p q) (dec_lt q p)) plain (hidden_or_not (at A p))
  where
    plain : ((n : ℕ) → at A p ≡ hidden n → ⊥) → at S p ≡ at S q
    plain h = sym (goes_same g p l h) ∙ e ∙ goes_same g q k (λ n x. h n (e ∙ x))

    apart : (n : ℕ) → at A p ≡ hidden n → Dec (p < q) → Dec (q < p) → at S p ≡ at S q
    apart n h (yes b) d = f n p q b (record { there = l; is = h }) (record { there = k; is = sym e ∙ h })
    apart n h (no x) (yes b) = sym (f n q p b (record { there = k; is = sym e ∙ h }) (record { there = l; is = h }))
    apart n h (no x) (no y) = let z : p ≡ q = omega arith in ap (at S) z

-- ---- the lines of a query

module _ {Q : Query} {n : ℕ} {rows words : List ℕ} (g : Given Q n rows words) (p : ℕ) (going : Going Q p) where
  abbrev i : ℕ
  i = line_of p

  abbrev t : ℕ
  t = target_of p

  abbrev A : TheLine
  A = line_at Q i

  abbrev S : TheLine
  S = line_at Q t

  few : length A.columns ≤ most_columns
  few = laid_few g.laid i going.line

  over : Goes A S
  over = (goes_iff A S).0 going.goes

  row : (c : ℕ) → c < most_columns → laid_term rows i c ≡ term_at (line_value A) c
  row = (g.laid.row i going.line).term

  -- the line's term in one of its columns, and the target's
  line_term : (c : ℕ) → c < length A.columns → laid_term rows i c ≡ term_value (at A c)
  line_term c l = laid_column g.laid i going.line c l

  target_term : (c : ℕ) → c < length A.columns → laid_term rows t c ≡ term_value (at S c)
  target_term c l = laid_column g.laid t going.target c (omega (arith, over.width))

  twice_own : Twice A S → KeepsOwn rows i t (twice_word words i)
  twice_own f c d b e h s same =
      let one = at_hidden A few c (rw (row c b) at h) in
      let other = at_hidden A few d (rw (row d e) at (rw same at h)) in
      let number = ap (λ (x : Term). x.number) (sym (row c b) ∙ same ∙ row d e) in
      let is = one.is ∙ ap hidden number ∙ sym other.is in
      let kept = twice_columns over f c d one.there other.there is in
      target_term c one.there ∙ ap term_value kept ∙ sym (target_term d other.there)

  own_twice : KeepsOwn rows i t (twice_word words i) → Twice A S
  own_twice k m c d l one other =
      let b : c < most_columns = omega (arith, one.there, few) in
      let e : d < most_columns = omega (arith, other.there, few) in
      let (h, number) = hidden_at A few c (small_line g.small i going.line) m one in
      let twice = ((g.worded.line i going.line).twice m).1 (record { first = c; second = d; apart = l; one = one; other = other }) in
      let set = subst (λ (x : ℕ). bit (twice_word words i) x ≡ 1) (sym (ap (λ (x : Term). x.number) (row c b) ∙ number)) twice in
      let same = line_term c one.there ∙ ap term_value (one.is ∙ sym other.is) ∙ sym (line_term d other.there) in
      let kept = k c d b e (rw (row c b) h) set same in
      value_same (at S c) (at S d) (sym (target_term c one.there) ∙ kept ∙ target_term d other.there)

  candidate_iff : Candidate Q p ↔ KeepsOwn rows i t (twice_word words i)
  candidate_iff =
      let r = agree_iff A S A S in
      let j = joint_columns over over in (
        λ c. twice_own (λ m x y l one other. j.0 (r.0 c.goes).2 x y one.there other.there (one.is ∙ sym other.is)),
        λ k. record {
          line = going.line;
          target = going.target;
          goes = r.1 (over, over, j.1 (twice_columns over (own_twice k)));
        },
      )

  pub candidate_test : {r : Bool} → (r ≡ true) ↔ KeepsOwn rows i t (twice_word words i) → (r ≡ true) ↔ Candidate Q p
  candidate_test w = (λ e. candidate_iff.1 (w.0 e), λ c. w.1 (candidate_iff.0 c))

  -- a line that stays goes by itself
  stay_candidate : i ≡ t → Candidate Q p
  stay_candidate e = candidate_iff.1 (λ c d b l h s same. rw (← e) same)

candidate_going : {Q : Query} {p : ℕ} → Candidate Q p → Going Q p
candidate_going {Q} {p} c =
    let A = line_at Q (line_of p) in
    let S = line_at Q (target_of p) in
    record { line = c.line; target = c.target; goes = (goes_iff A S).1 ((agree_iff A S A S).0 c.goes).0 }

-- ---- the candidates among the pairs that go

pub candidates_first : {Q : Query} {n : ℕ} {rows words : List ℕ} (g : Given Q n rows words) (m : ℕ) → Goings Q m
    → Sieved (Candidate Q) m (bit_and m moving) m
candidates_first g m goings =
    sieved_none (λ b e. ((bit_and_iff m moving b).0 e).0)
    (λ b e z.
    let going = (goings b).0 e in
    let moves : (line_of b ≡ target_of b → ⊥) → ⊥ =
    λ f. omega (arith, z, (bit_and_iff m moving b).1 (e, moving_set b (omega (arith, going.line, g.laid.lines)) f)) in
    stay_candidate g b going (stable (ℕ_discrete (line_of b) (target_of b)) moves))
  where
    stable : {P : Type 0} → Dec P → ((P → ⊥) → ⊥) → P
    stable (yes x) f = x
    stable (no n) f = absurd (f n)

pub candidates_all : {Q : Query} {c m : ℕ} → Goings Q c → Sieved (Candidate Q) c 0 m → CandidateWord Q m
candidates_all goings k p =
    let r = sieved_all k p in (λ e. (r.0 e).1, λ h. r.1 ((goings p).1 (candidate_going h), h))
