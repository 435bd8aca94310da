-- The lines of a printed text, block by block.
use mathlib.Core.Path.{◌≡◌, refl, ap, subst, sym}
use mathlib.Core.Logic.{⊎_elim}
use mathlib.Core.List.Memᴰ
use mathlib.Core.List.{List, [], ◌∷◌}
use Prim.Native.Nat.{ℕ, suc, ◌+◌, ◌<◌}
use native.Mathlib.Omega.{arith}
use lib.ListN.{length}
use Rattle.theory.specs.Query.{◌∈◌}
use Rattle.text.specs.Lines.{lines}
use Rattle.text.specs.Names.{table_columns, view_table_terms, partition_views}
use Rattle.text.specs.Print.{decimal}
use Rattle.text.proofs.Each.{Each, each_cons, each_append}
use Rattle.text.proofs.Joined.{FieldByte, LineByte, Clean, decimal_clean, joined_clean, table_columns_clean, view_table_terms_clean, partition_views_clean, lines_ended, ended_bytes}
use Rattle.model.specs.Print.{table_fields, line_fields, partition_fields, print_line}
use Rattle.model.proofs.Printed.{table_clean, line_clean, partition_clean}
use Rattle.policy_text.specs.Declared.{Declared}
use Rattle.policy_text.specs.Print.{print_block, print_lines, print}

-- ---- a block

-- a line of a block is the printed line of one of its values
pub record LineOf {X : Type 0} (fields_of : X → List (List ℕ)) (n : ℕ) (l : List X) (line : List ℕ) : Type 0 where
  pub number : ℕ
  pub value : X
  pub below : number < n + length l
  pub member : value ∈ l
  pub printed : line ≡ print_line number (fields_of value)

module _ {X : Type 0} (fields_of : X → List (List ℕ)) where
  pub block_line : (n : ℕ) (l : List X) (line : List ℕ) → line ∈ print_block fields_of n l → LineOf fields_of n l line
  unfolding print_block
  block_line n [] line m = absurd (Memᴰ.not-nil m)
  block_line n (x ∷ l) line m =
      ⊎_elim (λ e. record { number = n; value = x; below = omega arith; member = Memᴰ.head refl; printed = e })
      (λ k. let r = block_line (suc n) l line k in
      record {
        number = r.number;
        value = r.value;
        below = omega arith;
        member = Memᴰ.tail r.member;
        printed = r.printed;
      })
      (Memᴰ.cases_cons m)

  pub length_block : (n : ℕ) (l : List X) → length (print_block fields_of n l) ≡ length l
  unfolding print_block
  length_block n [] = refl
  length_block n (x ∷ l) = ap suc (length_block (suc n) l)

  block_clean : ((x : X) → Clean (fields_of x)) → (n : ℕ) (l : List X) (line : List ℕ) → line ∈ print_block fields_of n l
      → Each LineByte line
  unfolding print_line
  block_clean clean n l line m =
      let r = block_line n l line m in
      let number = decimal r.number in
      let fs = fields_of r.value in
      subst (Each LineByte) (sym r.printed)
      (joined_clean (number ∷ fs) (each_cons (Each FieldByte) number fs (decimal_clean r.number) (clean r.value)))

-- ---- the text

lines_clean : (d : Declared) → Each (Each LineByte) (print_lines d)
unfolding print_lines
lines_clean d =
    each_cons (Each LineByte) table_columns _ table_columns_clean
    (each_append (Each LineByte) (print_block table_fields 1 d.widths) _
    (block_clean table_fields table_clean 1 d.widths)
    (each_cons (Each LineByte) view_table_terms _ view_table_terms_clean
    (each_append (Each LineByte) (print_block line_fields 1 d.views) _
    (block_clean line_fields line_clean 1 d.views)
    (each_cons (Each LineByte) partition_views _ partition_views_clean
    (block_clean partition_fields partition_clean 1 d.partitions)))))

pub lines_printed : (d : Declared) → lines (print d) ≡ record { ended = print_lines d; rest = [] }
unfolding print
lines_printed d = lines_ended (print_lines d) (lines_clean d)

-- what is printed is bytes
pub print_bytes : (d : Declared) (x : ℕ) → x ∈ print d → x < 256
unfolding print
print_bytes d = ended_bytes (print_lines d) (lines_clean d)
