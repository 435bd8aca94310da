-- Searching for an assignment line by line, target by target.
use mathlib.Core.Path.{◌≡◌, refl, sym, subst, ◌∙◌}
use mathlib.Core.Bool.{cond}
use mathlib.Core.List.{List}
use Prim.Native.Nat.{ℕ, ◌*◌, ◌/◌, ◌^◌, ◌<◌}
use native.Mathlib.Decide.{ℕ_discrete, dec_lt}
use native.Mathlib.Omega.{arith}
use borrow.Author.Tests.{eq-eqb, ne_eqb}
use lib.Bits.{bit_and}
use lib.Dec.{eqb}
use lib.ListN.{get_or}
use lib.Pow.{shr-shr}
use Rattle.words.specs.Bits.{bit}
use Rattle.words.specs.Sets.{Least, LeastDropped}
use Rattle.words.proofs.Bits.{bit_zero}
use Rattle.words.proofs.Masks.{bit_and_iff}
use Rattle.words.proofs.Lowest.{dropped_same, dropped_other}
use Rattle.words.proofs.Marks.{left_before}
use Rattle.model.specs.Limits.{most_lines}
use Rattle.reduce.specs.PairNumbers.{pair_of}
use Rattle.reduce.specs.Extends.{TargetsOf, EmptyRow, Extends}

pub row_is : (c targets k : ℕ) → TargetsOf c targets k (bit_and (c / 2 ^ (k * most_lines)) targets)
row_is c targets k =
    let same : (j : ℕ) → bit (c / 2 ^ (k * most_lines)) j ≡ bit c (pair_of k j) = λ j. rw shr-shr in
    record {
      some = λ j e. let (x, y) = (bit_and_iff (c / 2 ^ (k * most_lines)) targets j).0 e in (y, sym (same j) ∙ x);
      all = λ j x y. (bit_and_iff (c / 2 ^ (k * most_lines)) targets j).1 (same j ∙ y, x);
    }

pub row_empty : {rows targets c k : ℕ} → bit rows k ≡ 1 → TargetsOf c targets k 0 → EmptyRow rows targets c
row_empty {k = k} h r = record { line = k; in_rows = h; none = λ j x y. omega (arith, r.all j x y, bit_zero j) }

module _ {rows targets c : ℕ} {words : List ℕ} where
  pub empty_none : EmptyRow rows targets c → Extends rows targets c words → ⊥
  empty_none e x = e.none (x.target e.line) (x.allowed e.line e.in_rows) (x.candidate e.line e.in_rows)

  pub extends_none : rows ≡ 0 → Extends rows targets c words
  extends_none e =
      let nothing : (i : ℕ) → bit rows i ≡ 1 → ⊥ = λ i h. omega (arith, bit_zero i, rw e at h) in
      record {
        target = λ i. 0;
        allowed = λ i h. absurd (nothing i h);
        candidate = λ i h. absurd (nothing i h);
        joint = λ i j h g l. absurd (nothing i h);
      }

module _ (rows targets c k rest : ℕ) (words : List ℕ) (first : Least 64 rows k) (others : LeastDropped 64 rows rest) where
  -- the candidates once line k has target j
  abbrev pub left : ℕ → ℕ
  left j = bit_and c (get_or words (pair_of k j) 0)

  -- line k can have target j
  abbrev Open : ℕ → Type 0
  Open j = (bit targets j ≡ 1) × (bit c (pair_of k j) ≡ 1)

  in_rows : (i : ℕ) → bit rest i ≡ 1 → bit rows i ≡ 1
  in_rows i h = left_before i first others h

  behind : (i : ℕ) → bit rest i ≡ 1 → k < i
  behind i h = go (dec_lt k i) (ℕ_discrete i k)
    where
      go : Dec (k < i) → Dec (i ≡ k) → k < i
      go (yes l) d = l
      go (no n) (yes e) = absurd (omega (arith, dropped_same others first, rw e at h))
      go (no n) (no f) = absurd (omega (arith, first.none i (omega arith), in_rows i h))

  extends_split : Extends rows targets c words → (j : ℕ) × Open j × Extends rest targets (left j) words
  extends_split x =
      let t = x.target in (
        t k,
        (x.allowed k first.set, x.candidate k first.set),
        record {
          target = t;
          allowed = λ i h. x.allowed i (in_rows i h);
          candidate = λ i h.
              (bit_and_iff c (get_or words (pair_of k (t k)) 0) (pair_of i (t i))).1
              (x.candidate i (in_rows i h), x.joint k i first.set (in_rows i h) (behind i h));
          joint = λ i j h g l. x.joint i j (in_rows i h) (in_rows j g) l;
        },
      )

  module _ (j : ℕ) (x : Extends rest targets (left j) words) where
    chosen : ℕ → ℕ
    chosen i = cond (eqb i k) j (x.target i)

    here : chosen k ≡ j
    unfolding chosen
    here = rw (eq-eqb k k refl)

    later : (i : ℕ) → (i ≡ k → ⊥) → chosen i ≡ x.target i
    unfolding chosen
    later i f = rw (ne_eqb i k f)

    in_rest : (i : ℕ) → (i ≡ k → ⊥) → bit rows i ≡ 1 → bit rest i ≡ 1
    in_rest i f h = dropped_other i others first f ∙ h

    both : (i : ℕ) → bit rest i ≡ 1 → (bit c (pair_of i (x.target i)) ≡ 1) × (bit (get_or words (pair_of k j) 0) (pair_of i (x.target i)) ≡ 1)
    both i h = (bit_and_iff c (get_or words (pair_of k j) 0) (pair_of i (x.target i))).0 (x.candidate i h)

    pub extends_join : Open j → Extends rows targets c words
    extends_join o = record {
      target = chosen;
      allowed = λ i h. allow i h (ℕ_discrete i k);
      candidate = λ i h. can i h (ℕ_discrete i k);
      joint = λ i l h g m. join i l h g m (ℕ_discrete i k) (ℕ_discrete l k);
    }
      where
        allow : (i : ℕ) → bit rows i ≡ 1 → Dec (i ≡ k) → bit targets (chosen i) ≡ 1
        allow i h (yes e) = rw (e, here) o.0
        allow i h (no f) = rw (later i f) (x.allowed i (in_rest i f h))

        can : (i : ℕ) → bit rows i ≡ 1 → Dec (i ≡ k) → bit c (pair_of i (chosen i)) ≡ 1
        can i h (yes e) = rw (e, here) o.1
        can i h (no f) = rw (later i f) (both i (in_rest i f h)).0

        join : (i l : ℕ) → bit rows i ≡ 1 → bit rows l ≡ 1 → i < l → Dec (i ≡ k) → Dec (l ≡ k)
            → bit (get_or words (pair_of i (chosen i)) 0) (pair_of l (chosen l)) ≡ 1
        join i l h g m (yes e) (yes f) = absurd (omega arith)
        join i l h g m (yes e) (no f) = rw (e, here, later l f) (both l (in_rest l f g)).1
        join i l h g m (no e) (yes f) = absurd (omega (arith, behind i (in_rest i e h)))
        join i l h g m (no e) (no f) = rw (later i e, later l f) (x.joint i l (in_rest i e h) (in_rest l f g) m)

  -- the targets of line k tried so far, all but those in `row`, lead to nothing
  pub record Tried (row : ℕ) : Type 0 where
    pub some : (j : ℕ) → bit row j ≡ 1 → Open j
    pub nothing : (j : ℕ) → Open j → bit row j ≡ 0 → Extends rest targets (left j) words → ⊥

  pub tried_none : {row : ℕ} → TargetsOf c targets k row → Tried row
  tried_none r = record {
    some = r.some;
    nothing = λ j o z x. omega (arith, r.all j o.0 o.1);
  }

  pub tried_more : {row j next : ℕ} → Tried row → Least 64 row j → LeastDropped 64 row next → (Extends rest targets (left j) words → ⊥)
      → Tried next
  tried_more {row} {j} {next} t l d f = record {
    some = λ i e. t.some i (left_before i l d e);
    nothing = λ i o z x. go i o z x (ℕ_discrete i j);
  }
    where
      go : (i : ℕ) → Open i → bit next i ≡ 0 → Extends rest targets (left i) words → Dec (i ≡ j) → ⊥
      go i o z x (yes p) = f (subst (λ (m : ℕ). Extends rest targets (left m) words) p x)
      go i o z x (no p) = t.nothing i o (sym (dropped_other i d l p) ∙ z) x

  pub tried_all : Tried 0 → Extends rows targets c words → ⊥
  tried_all t x = let (j, o, y) = extends_split x in t.nothing j o (bit_zero j) y
