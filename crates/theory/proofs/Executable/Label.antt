-- What a label says: its table in the low 32 bits, and above them the views that cover the line.
use mathlib.Core.Path.{◌≡◌}
use mathlib.Core.Logic.{◌↔◌}
use mathlib.Core.Option.{some}
use mathlib.Core.List.{List}
use Prim.Native.Nat.{ℕ, ◌+◌, ◌-◌, ◌%◌, ◌^◌, ◌≤◌, ◌<◌}
use native.Mathlib.Omega.{arith}
use lib.ListN.{length, get_elem?}
use Rattle.words.specs.Bits.{bit, half_bits}
use Rattle.words.proofs.Parts.{low_part, bit_above, parts_below}
use Rattle.words.proofs.TestBits.{tests_bit, tests_below}
use Rattle.theory.specs.Query.{Line}
use Rattle.theory.specs.Cover.{Covers}
use Rattle.theory.specs.Executable.Cover.{covers}
use Rattle.theory.specs.Executable.Label.{view_bits, label}
use Rattle.theory.proofs.Executable.Cover.{covers_iff}

-- bit k says whether the view at place k covers the line
pub view_bits_bit : (vs : List Line) (A : Line) (k : ℕ)
    → (bit (view_bits vs A) k ≡ 1) ↔ ((v : Line) × (get_elem? vs k ≡ some v) × Covers v A)
view_bits_bit vs A k =
    let t = tests_bit (λ v. covers v A) vs k in (
      λ h. let (v, e, c) = t.0 h in (v, e, (covers_iff v A).0 c),
      λ r. t.1 (r.0, r.1, (covers_iff r.0 A).1 r.2),
    )

-- ---- the label

module _ (vs : List Line) (A : Line) (small : A.table < 2 ^ half_bits) where
  pub label_table : label vs A % 2 ^ half_bits ≡ A.table
  unfolding label
  label_table = low_part half_bits (view_bits vs A) small

  -- bit 31 + n says whether view n covers the line
  pub label_bit : (n : ℕ) → 1 ≤ n
      → (bit (label vs A) (31 + n) ≡ 1) ↔ ((v : Line) × (get_elem? vs (n - 1) ≡ some v) × Covers v A)
  unfolding label
  label_bit n h =
      let e : 31 + n ≡ half_bits + (n - 1) = omega arith in
      rw (e, bit_above half_bits (view_bits vs A) small (n - 1)) (view_bits_bit vs A (n - 1))

  -- no bit past the last view is set
  pub label_below : label vs A < 2 ^ (half_bits + length vs)
  unfolding label
  label_below = parts_below half_bits (view_bits vs A) small (length vs) (tests_below (λ v. covers v A) vs)
