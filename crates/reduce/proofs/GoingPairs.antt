-- The targets of a line, found among the rows that are near, and the pairs of all lines with their targets, line by line.
use mathlib.Core.Path.{◌≡◌, sym, ap, ◌∙◌}
use mathlib.Core.Logic.{◌↔◌, inr, ⊎_elim}
use mathlib.Core.Bool.{Bool, cond}
use mathlib.Core.List.{List}
use Prim.Native.Nat.{ℕ, ◌+◌, ◌-◌, ◌*◌, ◌^◌, ◌≤◌, ◌<◌}
use native.Mathlib.Decide.{ℕ_discrete, dec_lt}
use native.Mathlib.Omega.{arith}
use lib.Dec.{T}
use lib.ListN.{length}
use Rattle.theory.specs.Query.{Query}
use Rattle.words.specs.Bits.{bit}
use Rattle.words.specs.Sets.{set_bit, clear_bit, Upto, Least, LeastDropped}
use Rattle.words.proofs.Answers.{either}
use Rattle.words.proofs.Bits.{bit_zero, bit_cases, bit_within}
use Rattle.words.proofs.ClearBits.{clear_bit_same, clear_bit_other, clear_bit_iff}
use Rattle.words.proofs.Marks.{upto_set, upto_all, Picked, left_before, picked_more, picked_all}
use Rattle.words.proofs.Parts.{bit_below, bit_above}
use Rattle.words.proofs.SetBits.{set_bit_iff, set_bit_below}
use Rattle.model.specs.Limits.{most_lines}
use Rattle.entering.specs.Agree.{goes, line_at}
use Rattle.entering.specs.Worded.{columns_word, Given}
use Rattle.reduce.specs.LineTargets.{SameAt, Near, TargetWord}
use Rattle.reduce.specs.PairNumbers.{line_of, target_of}
use Rattle.reduce.specs.Pairs.{Going, Goings}
use Rattle.reduce.proofs.KeptColumns.{Kept}
use Rattle.reduce.proofs.Links.{upto_below}
use Rattle.reduce.proofs.TargetLines.{goes_near, same_goes, goes_self}

-- ---- the targets of line a

module _ (n : ℕ) (rows words : List ℕ) (a kept : ℕ) where
  abbrev Target : Query → ℕ → Type 0
  Target Q s = T (goes (line_at Q a) (line_at Q s))

  -- m has the targets among the rows that are near, but for those in `rest`
  pub record Targets (m rest : ℕ) : Type 0 where
    pub near : ℕ
    pub nearby : Upto (Near rows words a kept) n near
    pub below : (s : ℕ) → bit rest s ≡ 1 → s < n
    pub small : m < 2 ^ most_lines
    pub picked : (Q : Query) → Given Q n rows words → Picked (Target Q) near rest m

  -- the line itself is one
  pub targets_first : (near : ℕ) → Kept (columns_word words a) kept → n ≤ most_lines → a < n → Upto (Near rows words a kept) n near
      → Targets (set_bit 0 a) (clear_bit near a)
  targets_first near out few l u = record {
    near = near;
    nearby = u;
    below = λ s e. upto_below u s ((clear_bit_iff near a s).0 e).0;
    small = set_bit_below most_lines 0 a (omega arith) (omega arith);
    picked = λ Q g. record { some = λ s e. ((clear_bit_iff near a s).0 e).0; done = λ s. first Q g s (ℕ_discrete s a) };
  }
    where
      first : (Q : Query) → Given Q n rows words → (s : ℕ) → Dec (s ≡ a)
          → (bit (set_bit 0 a) s ≡ 1) ↔ ((bit near s ≡ 1) × (bit (clear_bit near a) s ≡ 0) × Target Q s)
      first Q g s (yes e) =
          let k : a < length Q = omega (arith, g.count) in
          let self = goes_self g a k in (
            λ h. rw e ((u.below a l).1 (goes_near g a k kept out a k self), clear_bit_same near a, self),
            λ r. (set_bit_iff 0 a s).1 (inr (sym e)),
          )
      first Q g s (no f) = (
        λ h. ⊎_elim (λ z. absurd (omega (arith, bit_zero s))) (λ e. absurd (f (sym e))) ((set_bit_iff 0 a s).0 h),
        λ r. absurd (omega (arith, clear_bit_other near a s f, r.0, r.1)),
      )

  pub targets_more : {m rest s next : ℕ} (on : Bool) (r : ℕ) → Kept (columns_word words a) kept → n ≤ most_lines → a < n → Targets m rest
      → Least 64 rest s → LeastDropped 64 rest next → T on ↔ SameAt rows a s kept → r ≡ cond on (set_bit m s) m → Targets r next
  targets_more {m} {rest} {s} {next} on r out few l k first others test e =
      let b = k.below s first.set in
      record {
        near = k.near;
        nearby = k.nearby;
        below = λ j h. k.below j (left_before j first others h);
        small = rw e (either (λ x. x < 2 ^ most_lines) on (set_bit_below most_lines m s k.small (omega arith)) k.small);
        picked = λ Q g.
            let p = k.picked Q g in
            let near = upto_set k.nearby s (p.some s first.set) in
            let same = same_goes g a (omega (arith, g.count)) kept out s (omega (arith, g.count)) near in
            picked_more on r p first others (λ t. same.0 (test.0 t), λ h. test.1 (same.1 h)) e;
      }

  pub targets_all : {m : ℕ} → Kept (columns_word words a) kept → a < n → Targets m 0 → (Q : Query) → Given Q n rows words → TargetWord Q a m
  targets_all out l k Q g s =
      let r = picked_all (k.picked Q g) s in (
        λ e. let (x, y) = r.0 e in (omega (arith, g.count, upto_below k.nearby s x), y),
        λ h.
            let near = goes_near g a (omega (arith, g.count)) kept out s h.0 h.1 in
            r.1 ((k.nearby.below s (omega (arith, g.count, h.0))).1 near, h.1),
      )

-- ---- the pairs of the lines before a, and those of line a above them

pub pairs_more : {Q : Query} (a : ℕ) {m r : ℕ} → m < 2 ^ (a * most_lines) → r < 2 ^ most_lines → a < length Q → TargetWord Q a r
    → Upto (Going Q) (a * most_lines) m → Upto (Going Q) ((a + 1) * most_lines) (m + 2 ^ (a * most_lines) * r)
pairs_more {Q} a {m} {r} small small' l word u = record {
  below = λ b h. go b h (dec_lt b (a * most_lines));
  past = λ b h.
      let t = b - a * most_lines in
      high b (omega arith) ∙ ⊎_elim (λ z. z) (λ e. absurd (omega (arith, bit_within most_lines t small' e))) (bit_cases r t);
}
  where
    high : (b : ℕ) → a * most_lines ≤ b → bit (m + 2 ^ (a * most_lines) * r) b ≡ bit r (b - a * most_lines)
    high b h =
        let e : b ≡ a * most_lines + (b - a * most_lines) = omega arith in
        ap (bit (m + 2 ^ (a * most_lines) * r)) e ∙ bit_above (a * most_lines) r small (b - a * most_lines)

    go : (b : ℕ) → b < (a + 1) * most_lines → Dec (b < a * most_lines) → (bit (m + 2 ^ (a * most_lines) * r) b ≡ 1) ↔ Going Q b
    go b h (yes k) = rw (bit_below (a * most_lines) r small b k) (u.below b k)
    go b h (no f) =
        let d : line_of b ≡ a = omega arith in
        let q : target_of b ≡ b - a * most_lines = omega arith in
        let up = high b (omega arith) in
        let w = word (b - a * most_lines) in (
          λ e. let (x, y) = w.0 (sym up ∙ e) in record { line = rw d l; target = rw q x; goes = rw (d, q) y },
          λ g. up ∙ w.1 (rw q at g.target, rw (d, q) at g.goes),
        )

pub pairs_all : {Q : Query} {n a m : ℕ} → length Q ≡ n → n ≤ a → Upto (Going Q) (a * most_lines) m → Goings Q m
pairs_all count h u = upto_all u (λ b l g. omega (arith, count, g.line))
