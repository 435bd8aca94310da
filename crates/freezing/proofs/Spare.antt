-- A block that is not taken: the taken ones do not reach the last, and the block's numbers are no constants of the rows.
use mathlib.Core.Path.{◌≡◌, refl, subst}
use mathlib.Core.Logic.{inl, inr, ⊎_elim, by_cases}
use mathlib.Core.List.Memᴰ
use mathlib.Core.List.{List, ◌++◌}
use Prim.Native.Nat.{ℕ, zero, suc, ◌+◌, ◌*◌, ◌/◌, ◌≤◌, ◌<◌}
use native.Mathlib.Decide.{dec_lt, dec_le}
use native.Mathlib.Omega.{arith}
use lib.ListN.{get_or, replicate, length-append}
use Rattle.theory.specs.Query.{◌∈◌}
use Rattle.theory.proofs.Taken.{below_in_list}
use Rattle.theory.proofs.Determine.Block.{block_long}
use Rattle.model.specs.Limits.{most_views, most_lines}
use Rattle.model.specs.Rows.{laid_term}
use Rattle.freezing.specs.Blocks.{most_terms, most_blocks, IsTaken, Takes, RowsTaken, SparedRows, SpareFound}

pub none_taken : (n b : ℕ) → IsTaken (replicate {A = ℕ} n 0) b → ⊥
none_taken n b t = t (zeros n b)
  where
    zeros : (n b : ℕ) → get_or (replicate {A = ℕ} n 0) b 0 ≡ 0
    zeros zero b = refl
    zeros (suc n) zero = refl
    zeros (suc n) (suc b) = zeros n b

-- where none was taken before, the blocks that are taken without a gap from the first are at most as many as the columns
pub taken_few : {views lines : List ℕ} {L M : (k p : ℕ) → Type 0} {m n : ℕ} {before between after : List ℕ}
    → ((b : ℕ) → IsTaken before b → ⊥) → Takes views L m before between → Takes lines M n between after
    → (j : ℕ) → ((b : ℕ) → b < j → IsTaken after b) → j ≤ m + n
taken_few {between = between} none one two j all =
    let new = one.new ++ two.new in
    let listed : (b : ℕ) → IsTaken between b → b ∈ one.new = λ b t. ⊎_elim (λ x. absurd (none b x)) (λ x. x) (one.only b t) in
    let few = below_in_list new j (λ b h.
    ⊎_elim (λ x. Memᴰ.append_left two.new (listed b x)) (λ x. Memᴰ.append_right one.new x) (two.only b (all b h))) in
    omega (arith, few, length-append one.new two.new, one.few, two.few)

-- a constant of the rows stands in none of the blocks, or in another one
spares : {rows : List ℕ} {count : ℕ} {before after : List ℕ} → RowsTaken rows count before after → (j : ℕ) → j < most_blocks
    → (IsTaken after j → ⊥) → SparedRows (j * block_long) rows count
spares {rows} {after = after} taken j low free k p h q mark =
    let n = (laid_term rows k p).number in
    by_cases (dec_lt n (j * block_long)) inl (λ above.
    by_cases (dec_le (j * block_long + block_long) n) inr (λ below.
    let in_block : n / block_long ≡ j = omega arith in
    absurd (free (subst (λ (b : ℕ). IsTaken after b) in_block (taken.constants k p h q mark (omega arith))))))

pub spare_found : {views lines before between after : List ℕ} → RowsTaken views most_views before between
    → RowsTaken lines most_lines between after → (j : ℕ) → j ≤ most_terms → get_or after j 0 ≡ 0 → SpareFound views lines (j * block_long)
spare_found one two j h free = record {
  low = omega arith;
  of_views = spares one j (omega arith) (λ t. two.kept j t free);
  of_lines = spares two j (omega arith) (λ t. t free);
}
