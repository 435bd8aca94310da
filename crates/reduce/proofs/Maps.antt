-- An assignment among the candidates is a map that sends the lines at the bits of one word to those at the bits of another.
use mathlib.Core.Path.{◌≡◌, subst}
use mathlib.Core.List.{List}
use Prim.Native.Nat.{ℕ, ◌^◌, ◌<◌}
use native.Mathlib.Decide.{ℕ_discrete, dec_lt}
use native.Mathlib.Omega.{arith}
use lib.Dec.{T}
use lib.ListN.{length}
use Rattle.theory.specs.Query.{Term, Query}
use Rattle.theory.specs.Reduce.{Sends}
use Rattle.words.specs.Bits.{bit}
use Rattle.words.proofs.Bits.{bit_within}
use Rattle.model.specs.Limits.{most_lines}
use Rattle.entering.specs.Agree.{agree, line_at}
use Rattle.entering.specs.Left.{lines_at}
use Rattle.entering.proofs.Left.{in_lines, lines_in_lem}
use Rattle.reduce.specs.PairNumbers.{pair_of}
use Rattle.reduce.specs.Extends.{Extends}
use Rattle.reduce.specs.Pairs.{Candidate, PairsTabled}
use Rattle.reduce.proofs.PairNumbers.{line_of_lem, target_of_lem}
use Rattle.reduce.proofs.Agree.{agree_swap}
use Rattle.reduce.proofs.Assign.{Assigned, assigned_iff}

module _ {Q : Query} {rows c : ℕ} {words : List ℕ} (tabled : PairsTabled Q rows c words) (targets : ℕ) where
  -- line i with target t and line j with target u
  abbrev Agreed : (i t j u : ℕ) → Type 0
  Agreed i t j u = T (agree (line_at Q i) (line_at Q t) (line_at Q j) (line_at Q u))

  module _ (x : Extends rows targets c words) (few : targets < 2 ^ most_lines) where
    small : (i : ℕ) → bit rows i ≡ 1 → x.target i < most_lines
    small i h = bit_within most_lines (x.target i) few (x.allowed i h)

    chosen : (i : ℕ) → bit rows i ≡ 1 → Candidate Q (pair_of i (x.target i))
    chosen i h = (tabled.candidates (pair_of i (x.target i))).0 (x.candidate i h)

    before : (i j : ℕ) → bit rows i ≡ 1 → bit rows j ≡ 1 → i < j → Agreed i (x.target i) j (x.target j)
    before i j h g l =
        let s = x.target i in
        let t = x.target j in
        let d = line_of_lem i s (small i h) in
        let e = line_of_lem j t (small j g) in
        rw (d, target_of_lem i s (small i h), e, target_of_lem j t (small j g)) at
        ((tabled.pairs (pair_of i s) (pair_of j t) (x.candidate i h) (x.candidate j g) (rw d h) (rw e g) (rw (d, e) l)).0
        (x.joint i j h g l))

    extends_assigned : Assigned Q rows (lines_at targets Q)
    extends_assigned = record {
      target = λ i. line_at Q (x.target i);
      within = λ i l h.
          in_lines targets Q (x.target i) (rw (target_of_lem i (x.target i) (small i h)) at (chosen i h).target) (x.allowed i h);
      joint = λ i j l k h g. go i j h g (dec_lt i j) (dec_lt j i);
    }
      where
        go : (i j : ℕ) → bit rows i ≡ 1 → bit rows j ≡ 1 → Dec (i < j) → Dec (j < i) → Agreed i (x.target i) j (x.target j)
        go i j h g (yes l) d = before i j h g l
        go i j h g (no n) (yes l) =
            agree_swap (line_at Q j) (line_at Q (x.target j)) (line_at Q i) (line_at Q (x.target i)) (before j i g h l)
        go i j h g (no n) (no m) =
            let e : i ≡ j = omega arith in
            subst (λ (o : ℕ). Agreed i (x.target i) o (x.target o)) e
            (rw (line_of_lem i (x.target i) (small i h), target_of_lem i (x.target i) (small i h)) at (chosen i h).goes)

  module _ (a : Assigned Q rows (lines_at targets Q)) (there : (i : ℕ) → bit rows i ≡ 1 → i < length Q) where
    record Right (i t : ℕ) : Type 0 where
      below : t < length Q
      allowed : bit targets t ≡ 1
      same : line_at Q t ≡ a.target i

    -- the place of a line's target
    place : (i : ℕ) → Dec (bit rows i ≡ 1) → ℕ
    place i (yes h) = (lines_in_lem targets Q (a.within i (there i h) h)).0
    place i (no n) = 0

    place_right : (i : ℕ) → bit rows i ≡ 1 → (d : Dec (bit rows i ≡ 1)) → Right i (place i d)
    unfolding place
    place_right i h (yes g) =
        let r = lines_in_lem targets Q (a.within i (there i g) g) in record { below = r.1; allowed = r.2; same = r.3 }
    place_right i h (no n) = absurd (n h)

    t : ℕ → ℕ
    t i = place i (ℕ_discrete (bit rows i) 1)

    right : (i : ℕ) → bit rows i ≡ 1 → Right i (t i)
    unfolding t
    right i h = place_right i h (ℕ_discrete (bit rows i) 1)

    small_target : (i : ℕ) → bit rows i ≡ 1 → t i < most_lines
    small_target i h = omega (arith, (right i h).below, tabled.few)

    agreeing : (i j : ℕ) → bit rows i ≡ 1 → bit rows j ≡ 1 → Agreed i (t i) j (t j)
    agreeing i j h g = rw ((right i h).same, (right j g).same) (a.joint i j (there i h) (there j g) h g)

    candidate : (i : ℕ) → bit rows i ≡ 1 → bit c (pair_of i (t i)) ≡ 1
    candidate i h =
        let d = line_of_lem i (t i) (small_target i h) in
        let m = target_of_lem i (t i) (small_target i h) in
        (tabled.candidates (pair_of i (t i))).1
        (record { line = rw d (there i h); target = rw m (right i h).below; goes = rw (d, m) (agreeing i i h h) })

    assigned_extends : Extends rows targets c words
    assigned_extends = record {
      target = t;
      allowed = λ i h. (right i h).allowed;
      candidate = candidate;
      joint = λ i j h g l.
          let b = small_target i h in
          let d = small_target j g in
          let x = line_of_lem i (t i) b in
          let y = line_of_lem j (t j) d in
          (tabled.pairs (pair_of i (t i)) (pair_of j (t j)) (candidate i h) (candidate j g) (rw x h) (rw y g) (rw (x, y) l)).1
          (rw (x, target_of_lem i (t i) b, y, target_of_lem j (t j) d) (agreeing i j h g));
    }

  pub extends_sends : targets < 2 ^ most_lines → Extends rows targets c words → (m : ℕ → Term) × Sends m (lines_at rows Q) (lines_at targets Q)
  extends_sends few x = (assigned_iff Q rows (lines_at targets Q)).0 (extends_assigned x few)

  pub sends_extends : ((i : ℕ) → bit rows i ≡ 1 → i < length Q) → (m : ℕ → Term) → Sends m (lines_at rows Q) (lines_at targets Q)
      → Extends rows targets c words
  sends_extends there m s = assigned_extends ((assigned_iff Q rows (lines_at targets Q)).1 (m, s)) there
