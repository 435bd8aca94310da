-- Where no line could go to another, no line may go.
use mathlib.Core.Path.{◌≡◌, refl, sym, ap, ◌∙◌}
use mathlib.Core.Bool.{false, false≢true}
use Prim.Native.Nat.{ℕ, zero, suc, ◌-◌, ◌^◌, ◌≤◌, ◌<◌}
use native.Mathlib.Nat.{le_refl, le_step}
use native.Mathlib.Omega.{arith}
use lib.Dec.{T}
use lib.ListN.{length}
use Rattle.theory.specs.Query.{Query, over, ◌∈◌}
use Rattle.theory.specs.Reduce.{image, without}
use Rattle.theory.specs.Executable.Reduce.{may_go, reduce_below, reduce}
use Rattle.theory.proofs.Executable.Test.{same_test}
use Rattle.words.specs.Sets.{clear_bit, meet}
use Rattle.words.proofs.ClearBits.{clear_bit_iff, low_bits_set}
use Rattle.words.proofs.Tests.{meet_iff}
use Rattle.model.specs.Limits.{most_lines}
use Rattle.entering.specs.Agree.{goes, line_at}
use Rattle.entering.specs.Left.{lines_at}
use Rattle.entering.proofs.Left.{in_lines, lines_in_lem, lines_without, lines_all}
use Rattle.reduce.specs.PairNumbers.{pair_of}
use Rattle.reduce.specs.Pairs.{Goings}
use Rattle.reduce.proofs.PairNumbers.{line_of_lem, target_of_lem, moving, moving_set}
use Rattle.reduce.proofs.Agree.{goes_iff}
use Rattle.reduce.proofs.Assign.{goes_image, may_go_sends}

module _ (Q : Query) (g : ℕ) (goings : Goings Q g) (few : length Q ≤ most_lines) (none : meet 64 g moving ≡ false) where
  full : ℕ
  full = 2 ^ length Q - 1

  whole : lines_at full Q ≡ Q
  unfolding full
  whole = lines_all Q (length Q) refl

  others : (i : ℕ) → i < length Q → without i Q ≡ lines_at (clear_bit full i) Q
  unfolding full
  others i l =
      ap (without i) (sym whole) ∙ lines_without full Q i l (λ j h. low_bits_set (length Q) j (omega arith))

  -- a line that may go could go to another
  stays : (i : ℕ) → i < length Q → T (may_go Q i) → ⊥
  unfolding full
  stays i l t =
      let (m, s) = (may_go_sends Q (lines_at (clear_bit full i) Q) i (others i l)).0 t in
      let here : line_at Q i ∈ Q = rw whole at (in_lines full Q i l (low_bits_set (length Q) i l)) in
      let (j, h, b, e) = lines_in_lem (clear_bit full i) Q (s (line_at Q i) here) in
      let apart = ((clear_bit_iff full i j).0 b).1 in
      let d = line_of_lem i j (omega arith) in
      let r = target_of_lem i j (omega arith) in
      let A = line_at Q i in
      let to : T (goes A (line_at Q j)) = rw e ((goes_iff A (over (image m) A)).1 (goes_image m A)) in
      let set = (goings (pair_of i j)).1 (record { line = rw d l; target = rw r h; goes = rw (d, r) to }) in
      let moves = moving_set (pair_of i j) (omega arith) (rw (d, r) (λ p. apart (sym p))) in
      false≢true (sym none ∙ (meet_iff 64 g moving).1 (pair_of i j, omega arith, set, moves))

  below : (i : ℕ) → ((k : ℕ) → k < i → k < length Q) → reduce_below i Q ≡ Q
  unfolding reduce_below
  below zero h = refl
  below (suc i) h =
      let no : may_go Q i ≡ false = same_test (may_go Q i) false (stays i (h i (le_refl (suc i)))) (λ t. absurd t) in
      rw no (below i (λ k l. h k (le_step l)))

  pub nothing_goes : (n : ℕ) → n ≡ length Q → lines_at (2 ^ n - 1) Q ≡ reduce Q
  unfolding reduce full
  nothing_goes n e = rw e (whole ∙ sym (below (length Q) (λ k l. l)))
