-- The table of compatible candidates, line by line and for each line by the later lines.
use mathlib.Core.Path.{◌≡◌, refl, sym, ◌∙◌}
use mathlib.Core.Logic.{◌↔◌, ◌⊎◌, inl, inr, ⊎_elim}
use mathlib.Core.List.{List, []}
use Prim.Native.Nat.{ℕ, ◌-◌, ◌^◌, ◌≤◌, ◌<◌}
use native.Mathlib.Decide.{ℕ_discrete}
use native.Mathlib.Omega.{arith}
use lib.Bits.{bit_and}
use lib.ListN.{length, get_or, replicate}
use Rattle.theory.specs.Query.{Query}
use Rattle.words.specs.Bits.{bit}
use Rattle.words.specs.Sets.{Least, LeastDropped}
use Rattle.words.proofs.Bits.{bit_zero}
use Rattle.words.proofs.ClearBits.{low_bits_set}
use Rattle.words.proofs.Lowest.{dropped_same, dropped_other}
use Rattle.words.proofs.Marks.{left_before}
use Rattle.model.specs.Limits.{most_lines}
use Rattle.model.specs.Value.{pad}
use Rattle.model.proofs.Pad.{pad_get}
use Rattle.entering.specs.Worded.{hidden_word, Given}
use Rattle.reduce.specs.PairNumbers.{most_pairs, pair_of, line_of, target_of}
use Rattle.reduce.specs.Extends.{TargetsOf}
use Rattle.reduce.specs.Links.{Linked, LinkWord, LinksPut, RowPaired}
use Rattle.reduce.specs.Pairs.{Joined, CandidateWord, PairsTabled}
use Rattle.reduce.proofs.LinkedPairs.{have_shared, linked_iff}
use Rattle.reduce.proofs.PairNumbers.{line_of_lem, target_of_lem}

-- ---- the candidates of line a with those of the later lines that are no longer in `rest`

pub record RowSome (Q : Query) (m a later rest : ℕ) (before table : List ℕ) : Type 0 where
  pub others : (p : ℕ) → (line_of p ≡ a → ⊥) → get_or table p 0 ≡ get_or before p 0
  pub pairs : (p b : ℕ) → line_of p ≡ a → bit m p ≡ 1 → bit m b ≡ 1 → (bit (get_or table p 0) b ≡ 1)
      ↔ ((bit (get_or before p 0) b ≡ 1) ⊎ ((bit later (line_of b) ≡ 1) × (bit rest (line_of b) ≡ 0) × Joined Q p b))

module _ {Q : Query} {n : ℕ} {rows words : List ℕ} (given : Given Q n rows words) {m : ℕ} (candidates : CandidateWord Q m) (a j row w : ℕ)
    (targets : TargetsOf m (2 ^ most_lines - 1) a row)
    (linked : LinkWord rows (bit_and (hidden_word words a) (hidden_word words j)) a j row w) where
  row_has : (p : ℕ) → line_of p ≡ a → bit m p ≡ 1 → bit row (target_of p) ≡ 1
  row_has p e x =
      let at : pair_of a (target_of p) ≡ p = omega arith in
      targets.all (target_of p) (low_bits_set most_lines (target_of p) (omega arith)) (rw at x)

  -- what the word says of two candidates
  says : (p b : ℕ) → line_of p ≡ a → line_of b ≡ j → bit m p ≡ 1 → bit m b ≡ 1
      → (bit w (pair_of (target_of p) (target_of b)) ≡ 1) ↔ Joined Q p b
  says p b ea eb x y =
      let c = (candidates p).0 x in
      let d = (candidates b).0 y in
      let t = target_of p in
      let u = target_of b in
      let shared = bit_and (hidden_word words (line_of p)) (hidden_word words (line_of b)) in
      let word : LinkWord rows shared (line_of p) (line_of b) row w = rw (ea, eb) linked in
      let k : (bit w (pair_of t u) ≡ 1) ↔ ((v : ℕ) → bit shared v ≡ 1 → Linked rows v (line_of p) (line_of b) t u) =
      rw (line_of_lem t u (omega arith), target_of_lem t u (omega arith)) at
      (word (have_shared given p b c d) (pair_of t u) (rw (line_of_lem t u (omega arith)) (row_has p ea x))) in
      let law = linked_iff given p b c d in
      (λ e. law.0 (k.0 e), λ e. k.1 (law.1 e))

  pub row_more : {later rest next : ℕ} {before table table' : List ℕ} → RowSome Q m a later rest before table → Least 64 rest j
      → LeastDropped 64 rest next → ((i : ℕ) → bit rest i ≡ 1 → bit later i ≡ 1) → LinksPut w row a j table table'
      → RowSome Q m a later next before table'
  row_more {later} {rest} {next} {before} {table} {table'} r l d some put = record {
    others = λ p f. put.others p f ∙ r.others p f;
    pairs = λ p b e x y. go p b e x y (ℕ_discrete (line_of b) j);
  }
    where
      entry : (p b : ℕ) → line_of p ≡ a → bit m p ≡ 1 → (bit (get_or table' p 0) b ≡ 1)
          ↔ ((bit (get_or table p 0) b ≡ 1) ⊎ ((line_of b ≡ j) × (bit w (pair_of (target_of p) (target_of b)) ≡ 1)))
      entry p b e x =
          let at : pair_of a (target_of p) ≡ p = omega arith in
          rw at at (put.links (target_of p) b (row_has p e x))

      go : (p b : ℕ) → line_of p ≡ a → bit m p ≡ 1 → bit m b ≡ 1 → Dec (line_of b ≡ j) → (bit (get_or table' p 0) b ≡ 1)
          ↔ ((bit (get_or before p 0) b ≡ 1) ⊎ ((bit later (line_of b) ≡ 1) × (bit next (line_of b) ≡ 0) × Joined Q p b))
      go p b e x y (yes f) =
          let k = entry p b e x in
          let s = says p b e f x y in
          let old = r.pairs p b e x y in
          let in_later : bit later (line_of b) ≡ 1 = rw f (some j l.set) in
          let gone : bit next (line_of b) ≡ 0 = rw f (dropped_same d l) in (
            λ h. ⊎_elim
                (λ g. ⊎_elim (λ z. inl z) (λ z. absurd (omega (arith, l.set, rw f at z.1))) (old.0 g))
                (λ g. inr (in_later, gone, s.0 g.1)) (k.0 h),
            λ h. k.1 (⊎_elim (λ z. inl (old.1 (inl z))) (λ z. inr (f, s.1 z.2)) h),
          )
      go p b e x y (no f) =
          let k = entry p b e x in
          let old = r.pairs p b e x y in
          let same = dropped_other (line_of b) d l f in (
            λ h. ⊎_elim (λ g. ⊎_elim (λ z. inl z) (λ z. inr (z.0, same ∙ z.1, z.2)) (old.0 g)) (λ g. absurd (f g.0)) (k.0 h),
            λ h. k.1 (inl (old.1 (⊎_elim (λ z. inl z) (λ z. inr (z.0, sym same ∙ z.1, z.2)) h))),
          )

module _ {Q : Query} {m a later : ℕ} {before : List ℕ} where
  pub row_none : RowSome Q m a later later before before
  row_none = record {
    others = λ p f. refl;
    pairs = λ p b e x y. (λ h. inl h, ⊎_elim (λ h. h) (λ h. absurd (omega (arith, h.0, h.1))));
  }

  pub row_all : {table : List ℕ} → RowSome Q m a later 0 before table → RowPaired Q m a later before table
  row_all r = record {
    others = r.others;
    pairs = λ p b e x y.
        let k = r.pairs p b e x y in (
          λ h. ⊎_elim (λ z. inl z) (λ z. inr (z.0, z.2)) (k.0 h),
          λ h. k.1 (⊎_elim (λ z. inl z) (λ z. inr (z.0, bit_zero (line_of b), z.1)) h),
        );
  }

-- ---- the lines that are no longer in `rest`

-- what is left of the lines are the last of them, and their entries are empty; the entries of the others are as they should be
pub record LinesPaired (Q : Query) (rows m rest : ℕ) (table : List ℕ) : Type 0 where
  pub some : (i : ℕ) → bit rest i ≡ 1 → bit rows i ≡ 1
  pub later : (i j : ℕ) → bit rest i ≡ 1 → bit rows j ≡ 1 → i < j → bit rest j ≡ 1
  pub empty : (p b : ℕ) → bit rest (line_of p) ≡ 1 → bit (get_or table p 0) b ≡ 0
  pub pairs : (p b : ℕ) → bit m p ≡ 1 → bit m b ≡ 1 → bit rows (line_of p) ≡ 1 → bit rest (line_of p) ≡ 0 → bit rows (line_of b) ≡ 1
      → line_of p < line_of b → (bit (get_or table p 0) b ≡ 1) ↔ Joined Q p b

no_entry : (p : ℕ) → ◌≡◌ {A = ℕ} (get_or (replicate most_pairs 0) p 0) 0
unfolding pad
no_entry p = pad_get most_pairs 0 [] p

module _ {Q : Query} {rows m : ℕ} where
  pub paired_none : LinesPaired Q rows m rows (replicate most_pairs 0)
  paired_none = record {
    some = λ i e. e;
    later = λ i j e h l. h;
    empty = λ p b e. rw (no_entry p) (bit_zero b);
    pairs = λ p b x y h z. absurd (omega arith);
  }

  pub paired_more : {rest a next : ℕ} {table table' : List ℕ} → LinesPaired Q rows m rest table → Least 64 rest a
      → LeastDropped 64 rest next → RowPaired Q m a next table table' → LinesPaired Q rows m next table'
  paired_more {rest} {a} {next} {table} {table'} r l d put = record {
    some = λ i e. r.some i (left_before i l d e);
    later = λ i j e h k. behind j (r.later i j (left_before i l d e) h k) (λ s. earlier i e (rw s at k));
    empty = λ p b e.
        rw (put.others p (λ s. omega (arith, dropped_same d l, rw s at e))) (r.empty p b (left_before (line_of p) l d e));
    pairs = λ p b x y h z g k. go p b x y h z g k (ℕ_discrete (line_of p) a);
  }
    where
      -- the line taken is the first of those left
      earlier : (i : ℕ) → bit next i ≡ 1 → i < a → ⊥
      earlier i e k = omega (arith, l.none i k, left_before i l d e)

      behind : (j : ℕ) → bit rest j ≡ 1 → (j ≡ a → ⊥) → bit next j ≡ 1
      behind j h f = dropped_other j d l f ∙ h

      go : (p b : ℕ) → bit m p ≡ 1 → bit m b ≡ 1 → bit rows (line_of p) ≡ 1 → bit next (line_of p) ≡ 0 → bit rows (line_of b) ≡ 1
          → line_of p < line_of b → Dec (line_of p ≡ a) → (bit (get_or table' p 0) b ≡ 1) ↔ Joined Q p b
      go p b x y h z g k (yes e) =
          let w = put.pairs p b e x y in
          let none : bit (get_or table p 0) b ≡ 0 = r.empty p b (rw e l.set) in
          let after : a < line_of b = rw e at k in
          let there = behind (line_of b) (r.later a (line_of b) l.set g after) (λ s. omega (arith, after, s)) in (
            λ v. ⊎_elim (λ c. absurd (omega (arith, none, c))) (λ c. c.1) (w.0 v),
            λ v. w.1 (inr (there, v)),
          )
      go p b x y h z g k (no f) =
          rw (put.others p f) (r.pairs p b x y h (sym (dropped_other (line_of p) d l f) ∙ z) g k)

  pub paired_all : {table : List ℕ} → length Q ≤ most_lines → length table ≡ most_pairs → CandidateWord Q m → LinesPaired Q rows m 0 table
      → PairsTabled Q rows m table
  paired_all few long candidates r = record {
    few = few;
    long = long;
    candidates = candidates;
    pairs = λ p b x y h g k. r.pairs p b x y h (bit_zero (line_of p)) g k;
  }
