-- A line that can go while the others stay is left out: all lines can be sent to the others.
use mathlib.Core.Path.{◌≡◌, refl, sym, subst, ◌∙◌}
use mathlib.Core.Logic.{◌⊎◌, inl, inr, ⊎_elim}
use mathlib.Core.Bool.{Bool, false, not, cond, ◌&&◌}
use mathlib.Core.List.{List}
use Prim.Native.Nat.{ℕ, ◌+◌, ◌≤◌, ◌<◌}
use native.Mathlib.Decide.{ℕ_discrete}
use native.Mathlib.Omega.{arith}
use borrow.Author.Tests.{eq-eqb, ne_eqb, not-false}
use lib.Bits.{bit_or}
use lib.Dec.{T, eqb}
use lib.ListN.{length}
use mir.Facts.{yes_eqb}
use Rattle.theory.specs.Query.{hidden, Line, Query, ◌∈◌}
use Rattle.theory.specs.Cover.{at}
use Rattle.theory.proofs.Executable.Test.{and_iff}
use Rattle.words.specs.Bits.{bit, is_set}
use Rattle.words.specs.Sets.{clear_bit, Least, LeastDropped}
use Rattle.words.proofs.Answers.{true_holds}
use Rattle.words.proofs.Bits.{bit_zero}
use Rattle.words.proofs.ClearBits.{clear_bit_iff}
use Rattle.words.proofs.Lowest.{dropped_other}
use Rattle.words.proofs.Marks.{left_before}
use Rattle.words.proofs.Masks.{bit_or_iff}
use Rattle.model.specs.Limits.{most_lines, most_columns}
use Rattle.model.specs.Value.{same_term, line_value}
use Rattle.model.specs.Rows.{term_at, laid_term}
use Rattle.model.specs.declared.Term.{Term}
use Rattle.entering.specs.Agree.{agree, line_at}
use Rattle.entering.specs.Left.{lines_at, Folds}
use Rattle.entering.specs.Showing.{hidden_term}
use Rattle.entering.specs.Worded.{hidden_word, Given}
use Rattle.reduce.specs.Alone.{VariablesIn, Keeps}
use Rattle.reduce.specs.PairNumbers.{pair_of}
use Rattle.reduce.specs.Pairs.{Candidate}
use Rattle.reduce.proofs.Agree.{Goes, goes_iff, agree_iff, agree_swap}
use Rattle.reduce.proofs.Assign.{Assigned, assigned_iff}
use Rattle.model.proofs.Same.{same_term_iff}
use Rattle.model.proofs.Values.{value_same}
use Rattle.entering.proofs.HiddenBits.{hidden_at}
use Rattle.entering.proofs.Left.{in_lines}
use Rattle.entering.proofs.Lines.{laid_few, small_line}
use Rattle.reduce.proofs.LaidColumns.{hidden_or_not, goes_same, joint_columns, laid_column}
use Rattle.reduce.proofs.PairNumbers.{line_of_lem, target_of_lem}
use Rattle.reduce.proofs.Passes.{folds_on}
use Rattle.reduce.proofs.TargetLines.{goes_self}

-- ---- the variables that are kept, column by column

pub record KeptTo (rows : List ℕ) (i b others k : ℕ) : Type 0 where
  pub kept : (p : ℕ) → p < k → T (hidden_term (laid_term rows i p) && is_set others (laid_term rows i p).number)
      → laid_term rows i p ≡ laid_term rows b p

module _ {rows : List ℕ} {i b others : ℕ} where
  kept_more : {k : ℕ} → KeptTo rows i b others k
      → (T (hidden_term (laid_term rows i k) && is_set others (laid_term rows i k).number) → laid_term rows i k ≡ laid_term rows b k)
      → KeptTo rows i b others (k + 1)
  kept_more {k} r f = record { kept = λ p l. go p l (ℕ_discrete p k) }
    where
      go : (p : ℕ) → p < k + 1 → Dec (p ≡ k) → T (hidden_term (laid_term rows i p) && is_set others (laid_term rows i p).number)
          → laid_term rows i p ≡ laid_term rows b p
      go p l (yes e) = rw e f
      go p l (no n) = r.kept p (omega arith)

  module _ {k : ℕ} (r : KeptTo rows i b others k) {t : Term} (et : t ≡ laid_term rows i k) where
    -- a column with no such variable
    pub kept_skip : (on : Bool) → on ≡ (hidden_term t && is_set others t.number) → on ≡ false → KeptTo rows i b others (k + 1)
    kept_skip on eo none = kept_more r (λ h. absurd (subst T (sym (rw et at eo) ∙ none) h))

    pub kept_same_term : {u : Term} (same : Bool) → u ≡ laid_term rows b k → same ≡ same_term t u → not same ≡ false
        → KeptTo rows i b others (k + 1)
    kept_same_term {u} same eu es e =
        kept_more r (λ h. sym et ∙ (same_term_iff t u).0 (true_holds (sym es ∙ not-false same e)) ∙ eu)

-- ---- the hidden variables of some lines, line by line

pub record VariablesSome (words : List ℕ) (rows rest w : ℕ) : Type 0 where
  pub some : (j : ℕ) → bit rest j ≡ 1 → bit rows j ≡ 1
  pub done : (j n : ℕ) → bit rows j ≡ 1 → bit rest j ≡ 0 → bit (hidden_word words j) n ≡ 1 → bit w n ≡ 1

module _ {words : List ℕ} {rows : ℕ} where
  pub variables_none : VariablesSome words rows rows 0
  variables_none = record { some = λ j e. e; done = λ j n e z. absurd (omega arith) }

  pub variables_more : {rest k next w : ℕ} (x : ℕ) → VariablesSome words rows rest w → Least 64 rest k → LeastDropped 64 rest next
      → x ≡ hidden_word words k → VariablesSome words rows next (bit_or w x)
  variables_more {rest} {k} {next} {w} x r l d e = record {
    some = λ j h. r.some j (left_before j l d h);
    done = λ j n h z g. (bit_or_iff w x n).1 (go j n h z g (ℕ_discrete j k));
  }
    where
      go : (j n : ℕ) → bit rows j ≡ 1 → bit next j ≡ 0 → bit (hidden_word words j) n ≡ 1 → Dec (j ≡ k) → (bit w n ≡ 1) ⊎ (bit x n ≡ 1)
      go j n h z g (yes s) = inr (rw (e, ← s) g)
      go j n h z g (no f) = inl (r.done j n h (sym (dropped_other j d l f) ∙ z) g)

  pub variables_all : {w : ℕ} → VariablesSome words rows 0 w → VariablesIn words rows w
  variables_all r j n e = r.done j n e (bit_zero j)

-- ---- a line goes, and the others stay

module _ {Q : Query} {n : ℕ} {rows words : List ℕ} (given : Given Q n rows words) (i b left others : ℕ) (li : i < length Q)
    (lb : b < length Q) (allowed : bit (clear_bit left i) b ≡ 1) (candidate : Candidate Q (pair_of i b)) (keeps : Keeps rows i b others)
    (variables : VariablesIn words (clear_bit left i) others) where
  abbrev rest : ℕ
  rest = clear_bit left i

  abbrev A : Line
  A = line_at Q i

  abbrev S : Line
  S = line_at Q b

  stays_self : (k : ℕ) → k < length Q → Goes (line_at Q k) (line_at Q k)
  stays_self k l = (goes_iff (line_at Q k) (line_at Q k)).0 (goes_self given k l)

  alone : T (agree A S A S)
  alone =
      let small : b < most_lines = omega (arith, given.laid.lines) in
      rw (line_of_lem i b small, target_of_lem i b small) at candidate.goes

  goes : Goes A S
  goes = ((agree_iff A S A S).0 alone).0

  -- a term of the line that another line has too
  same_column : (k p q : ℕ) → k < length Q → bit rest k ≡ 1 → p < length A.columns → q < length (line_at Q k).columns
      → at A p ≡ at (line_at Q k) q → at A p ≡ at S p
  same_column k p q lk h lp lq e =
      ⊎_elim (λ r. variable r.0 r.1) (λ f. goes_same goes p lp f) (hidden_or_not (at A p))
    where
      few : length A.columns ≤ most_columns
      few = laid_few given.laid i li

      variable : (v : ℕ) → at A p ≡ hidden v → at A p ≡ at S p
      variable v s =
          let has = ((given.worded.line k lk).variables v).1 (q, record { there = lq; is = sym e ∙ s }) in
          let row = (given.laid.row i li).term p (omega (arith, few)) in
          let (x, y) = hidden_at A few p (small_line given.small i li) v (record { there = lp; is = s }) in
          let set = subst (λ (z : ℕ). bit others z ≡ 1) (sym y) (variables k v h has) in
          let t = term_at (line_value A) p in
          let test : T (hidden_term (laid_term rows i p) && is_set others (laid_term rows i p).number) =
          rw row ((and_iff (hidden_term t) (is_set others t.number)).1 (x, yes_eqb set)) in
          value_same (at A p) (at S p)
          (sym (laid_column given.laid i li p lp) ∙ keeps p (omega (arith, few)) test
          ∙ laid_column given.laid b lb p (omega (arith, goes.width)))

  with_other : (k : ℕ) → k < length Q → bit rest k ≡ 1 → T (agree A S (line_at Q k) (line_at Q k))
  with_other k l h =
      let B = line_at Q k in
      (agree_iff A S B B).1 (
        goes,
        stays_self k l,
        (joint_columns goes (stays_self k l)).1 (λ p q lp lq e. sym (same_column k p q l h lp lq e) ∙ e),
      )

  two_others : (j k : ℕ) → j < length Q → k < length Q → T (agree (line_at Q j) (line_at Q j) (line_at Q k) (line_at Q k))
  two_others j k l m =
      let A = line_at Q j in
      let B = line_at Q k in
      (agree_iff A A B B).1 (stays_self j l, stays_self k m, (joint_columns (stays_self j l) (stays_self k m)).1 (λ p q lp lq e. e))

  target : ℕ → Line
  target k = cond (eqb k i) S (line_at Q k)

  here : target i ≡ S
  unfolding target
  here = rw (eq-eqb i i refl)

  other : (k : ℕ) → (k ≡ i → ⊥) → target k ≡ line_at Q k
  unfolding target
  other k f = rw (ne_eqb k i f)

  in_rest : (k : ℕ) → (k ≡ i → ⊥) → bit left k ≡ 1 → bit rest k ≡ 1
  in_rest k f h = (clear_bit_iff left i k).1 (h, f)

  goes_alone : Assigned Q left (lines_at rest Q)
  goes_alone = record {
    target = target;
    within = λ k l h. inside k l h (ℕ_discrete k i);
    joint = λ j k l m h g. joint j k l m h g (ℕ_discrete j i) (ℕ_discrete k i);
  }
    where
      inside : (k : ℕ) → k < length Q → bit left k ≡ 1 → Dec (k ≡ i) → target k ∈ lines_at rest Q
      inside k l h (yes e) = rw (e, here) (in_lines rest Q b lb allowed)
      inside k l h (no f) = rw (other k f) (in_lines rest Q k l (in_rest k f h))

      joint : (j k : ℕ) → j < length Q → k < length Q → bit left j ≡ 1 → bit left k ≡ 1 → Dec (j ≡ i) → Dec (k ≡ i)
          → T (agree (line_at Q j) (target j) (line_at Q k) (target k))
      joint j k l m h g (yes e) (yes f) = rw (e, f, here) alone
      joint j k l m h g (yes e) (no f) = rw (e, here, other k f) (with_other k m (in_rest k f g))
      joint j k l m h g (no e) (yes f) =
          rw (f, here, other j e) (agree_swap A S (line_at Q j) (line_at Q j) (with_other j l (in_rest j e h)))
      joint j k l m h g (no e) (no f) = rw (other j e, other k f) (two_others j k l m)

  pub folds_alone : Folds Q left → Folds Q rest
  folds_alone f = folds_on left rest f ((assigned_iff Q left (lines_at rest Q)).0 goes_alone)
