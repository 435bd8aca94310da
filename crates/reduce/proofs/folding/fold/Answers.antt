use Prim.Native.Nat.{◌-◌, ◌^◌, ◌<◌}
use native.Mathlib.Omega.{arith}
use Rattle.words.proofs.Bits.{bit_within}
use Rattle.words.proofs.ClearBits.{low_bits_below}
use Rattle.model.specs.Limits.{most_lines}
use Rattle.reduce.specs.Links.{LineBits}
use Rattle.reduce.proofs.Passes.{folds_all, lines_below, cleared}
use Rattle.reduce.proofs.GoingAlone.{folds_alone}
use Rattle.reduce.proofs.folding.fold.Goals as goal
use Rattle.reduce.proofs.folding.fold.Goals.{After-clear_bit-rest}

pub loop-i-init : goal.loop-i-init
loop-i-init c =
    let n = c.args.n in (
      rw c.low_bits-rows.ensures (low_bits_below n n (omega arith)),
      λ Q g m. rw c.low_bits-rows.ensures (folds_all Q n g.count),
    )

-- the lines but for line i
rest_small : (c : After-clear_bit-rest)
    → c.clear_bit-rest.result < 2 ^ c.args.n
rest_small c =
    cleared c.args.n _ _ c.clear_bit-rest.ensures c.loop-i.invariant.0

rest_lines : (c : After-clear_bit-rest) → LineBits c.clear_bit-rest.result
rest_lines c i e =
    bit_within most_lines i (lines_below (rest_small c) c.requires.0) e

pub row_of-targets-requires : goal.row_of-targets-requires
row_of-targets-requires c =
    (omega arith, lines_below (rest_small c) c.requires.0)

pub variables-requires : goal.variables-requires
variables-requires c = (omega arith, rest_lines (goal.at.variables-requires c).After-clear_bit-rest)

pub goes_alone-requires : goal.goes_alone-requires
goes_alone-requires c =
    (omega arith, omega arith, λ b e. rest_lines (goal.at.goes_alone-requires c).After-clear_bit-rest b (c.row_of-targets.ensures.some b e).0)

pub loop-i-preserved-then-goes_alone : goal.loop-i-preserved-then-goes_alone
loop-i-preserved-then-goes_alone c =
    let small = rest_small (goal.at.loop-i-preserved-then-goes_alone c).After-clear_bit-rest in (
      small,
      λ Q g m.
          let alone = c.goes_alone.ensures c.if-goes_alone.true in
          let b = alone.target in
          let (allowed, candidate) = c.row_of-targets.ensures.some b alone.among in
          rw c.clear_bit-rest.ensures
          (folds_alone g (c.loop-i.i - 1) b c.loop-i.rows c.variables.result (omega (arith, g.count))
          (rw g.count (bit_within c.args.n b small allowed)) (rw c.clear_bit-rest.ensures at allowed) ((m _).0 candidate)
          alone.keeps (rw c.clear_bit-rest.ensures at c.variables.ensures) (c.loop-i.invariant.1 Q g m)),
    )
