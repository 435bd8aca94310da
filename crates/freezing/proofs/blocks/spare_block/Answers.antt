use Rattle.std.proofs.Common.{rules, tests, arith, ◌≡◌, ℕ, ◌<◌, length, get_or}
use lib.Dec.{eqb}
use Rattle.std.specs.List.{position_or_len}
use Rattle.std.proofs.lemmas.Bool.{lt-ltb, eqb-false}
use Rattle.std.proofs.lemmas.Iterator.{YieldsList-from_slice}
use Rattle.std.proofs.lemmas.Iterator.Search.{position_from_yields_List}
use Rattle.std.proofs.lemmas.List.Sums.{fails_before_first}
use Rattle.freezing.specs.Blocks.{most_blocks, IsTaken}
use Rattle.freezing.proofs.Spare.{none_taken, taken_few, spare_found}
use Rattle.freezing.proofs.blocks.spare_block.Goals as goal

pub unwrap-j-requires : goal.unwrap-j-requires
unwrap-j-requires c =
    let taken = c.take_rows-2.new.taken in
    let found =
    position_from_yields_List (λ t. eqb t 0) _ _ c.position.result c.position.ensures.ran
    (YieldsList-from_slice taken c.iter.ensures.rest) (λ x b q k. search (rules, tests)) in
    let j = position_or_len (λ t. eqb t 0) taken in
    let few = taken_few (none_taken most_blocks) c.take_rows.ensures c.take_rows-2.ensures j (λ b h.
    eqb-false _ _ (fails_before_first (λ t. eqb t 0) taken b 0 h)) in
    rw (found, lt-ltb j (length taken) (omega (arith, few, c.take_rows-2.array_long)))

pub returns : goal.returns
returns c =
    let taken = c.take_rows-2.new.taken in
    let all : (b : ℕ) → b < c.unwrap-j.result → IsTaken taken b = search rules in
    let free : get_or taken c.unwrap-j.result 0 ≡ 0 = search rules in
    let few = taken_few (none_taken most_blocks) c.take_rows.ensures c.take_rows-2.ensures c.unwrap-j.result all in
    spare_found c.take_rows.ensures c.take_rows-2.ensures c.unwrap-j.result few free
