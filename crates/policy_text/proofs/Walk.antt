-- The walk over printed lines: each block's lines are taken one by one, and its values are those printed.
use mathlib.Core.Path.{◌≡◌, refl, ◌∙◌}
use mathlib.Core.Bool.{Bool, true, false, cond, ◌&&◌}
use mathlib.Core.List.Memᴰ
use mathlib.Core.List.{List, [], ◌∷◌, ◌++◌, append-nil, append_assoc}
use Prim.Native.Nat.{ℕ, suc, ◌+◌, ◌≤◌, ◌<◌}
use native.Mathlib.Nat.{not-suc-le-zero}
use native.Mathlib.Omega.{arith}
use lib.Dec.{not_T}
use lib.Ieee.Bits.{is_false}
use lib.ListN.{length, length-append}
use Rattle.theory.specs.Query.{◌∈◌}
use Rattle.text.specs.Names.{view_table_terms, partition_views}
use Rattle.text.specs.Lines.{same_bytes}
use Rattle.policy_text.specs.Text.{accepted, entered, Block, tables, views, partitions, enter, is_next, next_block, go_on, load_from}
use Rattle.policy_text.specs.Declared.{Declared}
use Rattle.policy_text.specs.WellFormed.{OneToMost}
use Rattle.model.specs.Print.{print_line}
use Rattle.policy_text.specs.Print.{print_block}
use Rattle.text.proofs.Names.{same_bytes_iff}
use Rattle.policy_text.proofs.Faults.{faulty≢entered}

-- a names line declares nothing, so a line that declares something is none
taken_not_next : (b : Block) (d d' : Declared) (l : List ℕ) → enter b d l ≡ entered d' → is_next b l ≡ false
unfolding enter is_next
taken_not_next tables d d' l h =
    is_false (same_bytes l view_table_terms)
    (not_T (same_bytes l view_table_terms) (λ t. faulty≢entered (rw ((same_bytes_iff l view_table_terms).0 t) at h)))
taken_not_next views d d' l h =
    is_false (same_bytes l partition_views)
    (not_T (same_bytes l partition_views) (λ t. faulty≢entered (rw ((same_bytes_iff l partition_views).0 t) at h)))
taken_not_next partitions d d' l h = refl

-- a line that declares something is behind us, and the block has started
one_line : (b : Block) (started : Bool) (d d' : Declared) (k : ℕ) (l : List ℕ) (ls : List (List ℕ)) (tail : List ℕ)
    → enter b d l ≡ entered d' → load_from b started d k (l ∷ ls) tail ≡ load_from b true d' (suc k) ls tail
unfolding load_from go_on
one_line b started d d' k l ls tail h = rw (taken_not_next b d d' l h, h) (go started)
  where
    go : (s : Bool) → cond (s && false) (load_from (next_block b) false d (suc k) ls tail) (load_from b true d' (suc k) ls tail)
        ≡ load_from b true d' (suc k) ls tail
    go true = refl
    go false = refl

-- A block of which the first so many values are declared: `put` is what is declared with them, and the printed line of the
-- next value declares it.
module _ {X : Type 0} (b : Block) (put : List X → Declared) (fields_of : X → List (List ℕ)) (most : ℕ) (Good : X → Type 0)
    (next : (done : List X) (x : X) → length done < most → Good x
    → enter b (put done) (print_line (suc (length done)) (fields_of x)) ≡ entered (put (done ++ x ∷ [])))
    (rest : List (List ℕ)) (tail : List ℕ) (e : Declared) where
  -- the lines still to come are taken, and what is behind them is reached with all declared
  still_to_come : (l done : List X) → length done + length l ≤ most → ((x : X) → x ∈ l → Good x)
      → ((k : ℕ) → load_from b true (put (done ++ l)) k rest tail ≡ accepted e)
      → (k : ℕ) → load_from b true (put done) k (print_block fields_of (suc (length done)) l ++ rest) tail ≡ accepted e
  unfolding print_block
  still_to_come [] done few good behind k = rw append-nil at (behind k)
  still_to_come (x ∷ l) done few good behind k =
      let n : length (done ++ x ∷ []) ≡ suc (length done) = simp length-append (omega arith) in
      one_line b true (put done) (put (done ++ x ∷ [])) k (print_line (suc (length done)) (fields_of x)) _ tail
      (next done x (omega arith) (good x (Memᴰ.head refl)))
      ∙ (rw n at (still_to_come l (done ++ x ∷ []) (omega arith) (λ y m. good y (Memᴰ.tail m))
      (λ j. rw append_assoc (behind j)) (suc k)))

  pub block_loads : (l : List X) → OneToMost most Good l → ((k : ℕ) → load_from b true (put l) k rest tail ≡ accepted e)
      → (k : ℕ) → load_from b false (put []) k (print_block fields_of 1 l ++ rest) tail ≡ accepted e
  unfolding print_block
  block_loads [] h behind k = absurd (not-suc-le-zero h.nonempty)
  block_loads (x ∷ l) h behind k =
      one_line b false (put []) (put (x ∷ [])) k (print_line 1 (fields_of x)) (print_block fields_of 2 l ++ rest) tail
      (next [] x (omega arith) (h.each x (Memᴰ.head refl)))
      ∙ still_to_come l (x ∷ []) (omega arith) (λ y m. h.each y (Memᴰ.tail m)) behind (suc k)
