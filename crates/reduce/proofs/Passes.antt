-- Taking out the lines that may go, one after the other, the last first.
use mathlib.Core.Path.{◌≡◌, refl, ◌∙◌}
use mathlib.Core.Logic.{◌↔◌}
use mathlib.Core.Bool.{Bool, true, false, cond}
use mathlib.Core.List.{List}
use Prim.Native.Nat.{ℕ, suc, ◌-◌, ◌^◌, ◌≤◌, ◌<◌}
use native.Mathlib.Nat.{lt_of_lt_of_le, lt_of_le_of_lt}
use native.Mathlib.Omega.{arith}
use lib.Dec.{T}
use lib.ListN.{length}
use lib.Pow.{pow_mono}
use Rattle.theory.specs.Query.{Term, hidden, Query}
use Rattle.theory.specs.Reduce.{image, without, Sends}
use Rattle.theory.specs.Executable.Reduce.{may_go, reduce_below, reduce}
use Rattle.theory.proofs.Reduce.{sends_self, sends_twice}
use Rattle.theory.proofs.Executable.Test.{same_test}
use Rattle.words.specs.Bits.{bit}
use Rattle.words.specs.Sets.{clear_bit}
use Rattle.words.proofs.ClearBits.{clear_bit_le, clear_bit_other, low_bits_set, low_bits_below}
use Rattle.model.specs.Limits.{most_lines}
use Rattle.entering.specs.Left.{lines_at, Folds}
use Rattle.entering.proofs.Left.{lines_subset, lines_without, lines_all}
use Rattle.reduce.specs.Extends.{Extends}
use Rattle.reduce.specs.Pairs.{PairsTabled}
use Rattle.reduce.proofs.Assign.{may_go_sends}
use Rattle.reduce.proofs.Maps.{extends_sends, sends_extends}

-- what is sent is sent of fewer lines too
sends_of : {m : ℕ → Term} {Q R : Query} (w : ℕ) → Sends m Q R → Sends m (lines_at w Q) R
sends_of {Q = Q} w s A i = s A (lines_subset w Q i)

pub folds_all : (Q : Query) (n : ℕ) → length Q ≡ n → Folds Q (2 ^ n - 1)
folds_all Q n e = (hidden, rw (lines_all Q n e) (sends_self Q))

-- lines to which all can be sent, sent on
pub folds_on : {Q : Query} (w v : ℕ) → Folds Q w → (m : ℕ → Term) × Sends m (lines_at w Q) (lines_at v Q) → Folds Q v
folds_on w v f r = (λ n. image r.0 (f.0 n), sends_twice f.0 r.0 f.1 r.1)

pub lines_below : {w n : ℕ} → w < 2 ^ n → n ≤ most_lines → w < 2 ^ most_lines
lines_below {n = n} small few = lt_of_lt_of_le small (pow_mono {i = n} few)

-- what is left once a bit is cleared
pub cleared : {r : ℕ} (n w k : ℕ) → r ≡ clear_bit w k → w < 2 ^ n → r < 2 ^ n
cleared n w k e small = rw e (lt_of_le_of_lt (clear_bit_le w k) small)

module _ {Q : Query} {rows c : ℕ} {words : List ℕ} (tabled : PairsTabled Q rows c words)
    (there : (i : ℕ) → bit rows i ≡ 1 → i < length Q) (folds : Folds Q rows) where
  -- What is left of Q once the lines from i on were tried.
  pub record Taking (i left : ℕ) : Type 0 where
    pub small : left < 2 ^ most_lines
    pub front : (j : ℕ) → j < i → bit left j ≡ 1
    pub kept : Folds Q left
    pub same : reduce_below i (lines_at left Q) ≡ reduce Q

  pub taking_none : (n : ℕ) → length Q ≡ n → Taking n (2 ^ n - 1)
  unfolding reduce
  taking_none n e = record {
    small = low_bits_below n most_lines (rw (← e) tabled.few);
    front = low_bits_set n;
    kept = folds_all Q n e;
    same = rw (lines_all Q n e, e) refl;
  }

  module _ (i left : ℕ) (k : Taking (suc i) left) (l : i < length Q) where
    abbrev pub rest : ℕ
    rest = clear_bit left i

    rest_small : rest < 2 ^ most_lines
    rest_small = cleared most_lines left i refl k.small

    out : without i (lines_at left Q) ≡ lines_at rest Q
    out = lines_without left Q i l (λ j h. k.front j (omega arith))

    all_to_rest : Extends rows rest c words → Folds Q rest
    all_to_rest x = folds_on rows rest folds (extends_sends tabled rest rest_small x)

    -- the search tells whether the line may go
    may_go_lem : T (may_go (lines_at left Q) i) ↔ Extends rows rest c words
    may_go_lem =
        let w = may_go_sends (lines_at left Q) (lines_at rest Q) i out in (
          λ t.
              let (m, s) = w.0 t in
              let all = sends_twice k.kept.0 m k.kept.1 s in
              sends_extends tabled rest there (λ n. image m (k.kept.0 n)) (sends_of rows all),
          λ x. let (m, s) = all_to_rest x in w.1 (m, sends_of left s),
        )

    -- one step of the pass, by what the line may do
    step : (b : Bool) → may_go (lines_at left Q) i ≡ b → reduce_below i (cond b (without i (lines_at left Q)) (lines_at left Q)) ≡ reduce Q
    unfolding reduce_below
    step b e = rw (← e) k.same

    pub taking_out : Extends rows rest c words → Taking i rest
    taking_out x = record {
      small = rest_small;
      front = λ j h. clear_bit_other left i j (λ e. omega arith) ∙ k.front j (omega arith);
      kept = all_to_rest x;
      same = rw (← out) (step true (same_test (may_go (lines_at left Q) i) true (λ t. tt) (λ t. may_go_lem.1 x)));
    }

    pub taking_kept : (Extends rows rest c words → ⊥) → Taking i left
    taking_kept f = record {
      small = k.small;
      front = λ j h. k.front j (omega arith);
      kept = k.kept;
      same = step false (same_test (may_go (lines_at left Q) i) false (λ t. f (may_go_lem.0 t)) (λ t. absurd t));
    }

  pub taking_all : (left : ℕ) → Taking 0 left → lines_at left Q ≡ reduce Q
  unfolding reduce_below
  taking_all left k = k.same
