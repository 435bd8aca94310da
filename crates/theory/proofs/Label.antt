-- What a label says: a view stands in the label of a line exactly when the line can be rewritten over that one view.
use mathlib.Core.Path.{◌≡◌}
use mathlib.Core.Logic.{◌↔◌}
use mathlib.Core.Option.{some}
use mathlib.Core.List.{List}
use Prim.Native.Nat.{ℕ, ◌+◌, ◌-◌, ◌^◌, ◌≤◌, ◌<◌}
use lib.ListN.{get_elem?}
use Rattle.words.specs.Bits.{bit, half_bits}
use Rattle.theory.specs.Query.{Line, Fits}
use Rattle.theory.specs.Cover.{Rewrites}
use Rattle.theory.specs.Executable.Label.{label}
use Rattle.theory.proofs.Executable.Label.{label_bit}
use Rattle.theory.proofs.Determine.{covers_iff_rewrites}

pub label_says_rewriting : (widths : List ℕ) (vs : List Line) (A : Line) → Fits widths A → A.table < 2 ^ half_bits → (n : ℕ) → 1 ≤ n
    → (bit (label vs A) (31 + n) ≡ 1) ↔ ((v : Line) × (get_elem? vs (n - 1) ≡ some v) × Rewrites widths v A)
label_says_rewriting widths vs A fits small n l =
    let k = label_bit vs A small n l in (
      (λ e. let r = k.0 e in (r.0, r.1, (covers_iff_rewrites widths r.0 A fits).0 r.2)),
      λ r. k.1 (r.0, r.1, (covers_iff_rewrites widths r.0 A fits).1 r.2),
    )
