-- The blocks that a column takes, and those that a row and the first rows take, one part after another.
use mathlib.Core.Path.{◌≡◌, refl, sym, ap, ◌∙◌}
use mathlib.Core.Logic.{◌⊎◌, inl, inr, ⊎_elim, by_cases}
use mathlib.Core.List.Memᴰ
use mathlib.Core.List.{List, [], ◌∷◌, ◌++◌}
use Prim.Native.Nat.{ℕ, ◌+◌, ◌/◌, ◌≤◌, ◌<◌}
use native.Mathlib.Decide.{ℕ_discrete, dec_lt}
use native.Mathlib.Omega.{arith}
use lib.ListN.{length, get_or, set, length-append, length-set}
use lib.Seq.{get_or-set_same, get_or-set_other}
use Rattle.theory.proofs.Determine.Block.{block_long}
use Rattle.model.specs.Limits.{most_columns}
use Rattle.model.specs.Rows.{laid_term}
use Rattle.model.specs.declared.Term.{Term}
use Rattle.freezing.specs.Blocks.{most_blocks, IsTaken, Takes, RowTaken, RowsTaken}

-- ---- a part of the rows after another

module _ {rows : List ℕ} where
  -- no constant in one of the blocks is looked at
  pub takes_none : {L : (k p : ℕ) → Type 0} {n : ℕ} {taken : List ℕ}
      → ((k p : ℕ) → L k p → (laid_term rows k p).mark ≡ 1 → (laid_term rows k p).number / block_long < most_blocks → ⊥)
      → Takes rows L n taken taken
  takes_none none = record {
    long = refl;
    kept = λ b t. t;
    constants = λ k p l q mark low. absurd (none k p l mark low);
    new = [];
    few = omega arith;
    only = λ b t. inl t;
  }

  -- two parts, and what is looked at stands in one of them
  pub takes_then : {L M N : (k p : ℕ) → Type 0} {m n most : ℕ} {before between after : List ℕ} → Takes rows L m before between
      → Takes rows M n between after → ((k p : ℕ) → N k p → L k p ⊎ M k p) → m + n ≤ most → Takes rows N most before after
  takes_then one two parts h = record {
    long = two.long ∙ one.long;
    kept = λ b t. two.kept b (one.kept b t);
    constants = λ k p l q mark low.
        ⊎_elim (λ x. two.kept _ (one.constants k p x q mark low)) (λ x. two.constants k p x q mark low) (parts k p l);
    new = one.new ++ two.new;
    few = omega (arith, length-append one.new two.new, one.few, two.few);
    only = λ b t.
        ⊎_elim (λ x. ⊎_elim inl (λ y. inr (Memᴰ.append_left two.new y)) (one.only b x))
        (λ y. inr (Memᴰ.append_right one.new y)) (two.only b t);
  }

  -- the same of what stands in the part, and with more columns
  pub takes_as : {L M : (k p : ℕ) → Type 0} {m n : ℕ} {before after : List ℕ} → Takes rows L m before after
      → ((k p : ℕ) → p < most_columns → M k p → L k p) → m ≤ n → Takes rows M n before after
  takes_as t part h = record {
    long = t.long;
    kept = t.kept;
    constants = λ k p l q. t.constants k p (part k p q l) q;
    new = t.new;
    few = omega (arith, t.few);
    only = t.only;
  }

-- ---- a column

now_taken : (taken : List ℕ) {b c : ℕ} → b < length taken → c ≡ b → IsTaken (set taken b 1) c
now_taken taken {b} h e z = omega (arith, get_or-set_same taken b 1 0 h, ap (λ (j : ℕ). get_or (set taken b 1) j 0) e, z)

same_term_lem : (rows : List ℕ) {i k p q : ℕ} → i ≡ k → q ≡ p → laid_term rows i q ≡ laid_term rows k p
same_term_lem rows x y = λ j. laid_term rows (x j) (y j)

-- column p of row k
abbrev pub ColumnTaken : List ℕ → ℕ → ℕ → List ℕ → List ℕ → Type 0
ColumnTaken rows k p before after = Takes rows (λ i q. (i ≡ k) × (q ≡ p)) 1 before after

module _ {rows : List ℕ} {k p : ℕ} {taken : List ℕ} (t : Term) where
  -- its constant's block
  pub column_taken : t ≡ laid_term rows k p → length taken ≡ most_blocks → t.number / block_long < most_blocks
      → ColumnTaken rows k p taken (set taken (t.number / block_long) 1)
  column_taken e long low =
      let b = t.number / block_long in
      let h : b < length taken = omega arith in
      record {
        long = length-set taken b 1;
        kept = λ c t z.
            by_cases (ℕ_discrete c b) (λ s. now_taken taken h s z) (λ s. t (sym (get_or-set_other taken b c 1 0 s) ∙ z));
        constants = λ i q at r mark low.
            now_taken taken h (ap (λ (u : Term). u.number / block_long) (same_term_lem rows at.0 at.1 ∙ sym e));
        new = b ∷ [];
        few = omega arith;
        only = λ c t.
            by_cases (ℕ_discrete c b) (λ s. inr (Memᴰ.head s)) (λ s. inl (λ z. t (get_or-set_other taken b c 1 0 s ∙ z)));
      }

  -- no constant, or one that is in none of the blocks
  pub column_left : t ≡ laid_term rows k p → (t.mark ≡ 1 → most_blocks ≤ t.number / block_long) → ColumnTaken rows k p taken taken
  column_left e none = takes_none (λ i q at mark low.
      let same = same_term_lem rows at.0 at.1 ∙ sym e in
      let high = none (ap (λ (u : Term). u.mark) (sym same) ∙ mark) in
      omega (arith, high, low, ap (λ (u : Term). u.number / block_long) same))

-- ---- the columns of a row, and the rows

-- the first columns of row k
abbrev pub ColumnsTaken : List ℕ → ℕ → ℕ → List ℕ → List ℕ → Type 0
ColumnsTaken rows k p before after = Takes rows (λ i q. (i ≡ k) × (q < p)) p before after

pub columns_more : {rows : List ℕ} {k p : ℕ} {before between after : List ℕ} → ColumnsTaken rows k p before between
    → ColumnTaken rows k p between after → ColumnsTaken rows k (p + 1) before after
columns_more {p = p} one two = takes_then one two
    (λ i q l. by_cases (dec_lt q p) (λ h. inl (l.0, h)) (λ h. inr (l.0, omega (arith, l.1, h)))) (omega arith)

pub rows_more : {rows : List ℕ} {k : ℕ} {before between after : List ℕ} → RowsTaken rows k before between
    → RowTaken rows k between after → RowsTaken rows (k + 1) before after
rows_more {k = k} one two = takes_then one two
    (λ i q l. by_cases (dec_lt i k) inl (λ h. inr (omega (arith, l, h)))) (omega arith)
