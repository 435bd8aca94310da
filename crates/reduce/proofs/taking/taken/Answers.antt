use Prim.Native.Nat.{ℕ, suc, ◌-◌, ◌<◌}
use mathlib.Core.Path.{◌≡◌, sym, ◌∙◌}
use mathlib.Core.Bool.{false≢true}
use native.Mathlib.Omega.{arith}
use lib.ListN.{length}
use Rattle.words.specs.Bits.{bit}
use Rattle.words.proofs.Bits.{bit_within}
use Rattle.words.proofs.ClearBits.{low_bits_below}
use Rattle.model.specs.Limits.{most_lines}
use Rattle.reduce.proofs.Passes.{lines_below, cleared, taking_none, taking_out, taking_kept, taking_all}
use Rattle.reduce.proofs.taking.taken.Goals as goal

pub loop-i-init : goal.loop-i-init
loop-i-init c = (
  rw c.low_bits-left.ensures (low_bits_below c.args.n most_lines c.requires.0),
  λ Q e t there f. rw c.low_bits-left.ensures (taking_none t there f c.args.n e),
)

pub search-requires : goal.search-requires
search-requires c =
    let at = c.loop-i in
    record {
      rows_bound = (lines_below c.requires.1 c.requires.0, cleared most_lines _ _ c.clear_bit-rest.ensures at.invariant.0);
      table_len = c.requires.2;
    }

pub loop-i-preserved-then-search : goal.loop-i-preserved-then-search
loop-i-preserved-then-search c =
    let at = c.loop-i in
    let rest = c.clear_bit-rest in
    let e : at.i ≡ suc (at.i - 1) = omega arith in (
      cleared most_lines _ _ rest.ensures at.invariant.0,
      λ Q l t there f.
          rw rest.ensures
          (taking_out t there f (at.i - 1) at.left (rw e at (at.invariant.1 Q l t there f)) (omega arith)
          (rw rest.ensures at (c.search.ensures.0 c.if-search.true))),
    )

pub loop-i-preserved : goal.loop-i-preserved
loop-i-preserved c =
    let at = c.loop-i in
    let rest = c.clear_bit-rest in
    let e : at.i ≡ suc (at.i - 1) = omega arith in (
      at.invariant.0,
      λ Q l t there f.
          taking_kept t there f (at.i - 1) at.left (rw e at (at.invariant.1 Q l t there f)) (omega arith)
          (λ x. false≢true (sym c.if-search.false ∙ c.search.ensures.1 (rw rest.ensures x))),
    )

pub returns : goal.returns
returns c =
    λ Q e t f.
    let there : (j : ℕ) → bit c.args.rows j ≡ 1 → j < length Q = λ j h. rw e (bit_within c.args.n j c.requires.1 h) in
    let none : c.loop-i.i ≡ 0 = omega arith in
    taking_all t there f _ (rw none at (c.loop-i.invariant.1 Q e t there f))
