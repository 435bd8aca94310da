-- A line that declares something is the printed line of what it declares, behind the printed lines of what is declared so far.
use mathlib.Core.Path.{◌≡◌, sym, ap, ◌∙◌}
use mathlib.Core.List.{List, [], ◌∷◌, ◌++◌, append_assoc}
use Prim.Native.Nat.{ℕ, suc, ◌+◌}
use native.Mathlib.Omega.{arith}
use lib.ListN.{length}
use Rattle.text.specs.Names.{table_columns, view_table_terms, partition_views}
use Rattle.model.specs.Fields.{table_line, view_line, partition_line}
use Rattle.model.specs.Print.{table_fields, line_fields, partition_fields, print_line}
use Rattle.model.proofs.ReadLines.{table_read, view_read, partition_read}
use Rattle.policy_text.specs.Text.{entered, Block, tables, views, partitions, enter}
use Rattle.policy_text.specs.Declared.{Declared}
use Rattle.policy_text.specs.Print.{print_block, print_lines}
use Rattle.policy_text.proofs.Faults.{table_taken, view_taken, partition_taken, entry_only_taken}

-- a block with one value more has one line more: that of the value, with the number of its turn
block_more : {X : Type 0} (fields_of : X → List (List ℕ)) (n : ℕ) (l : List X) (number : ℕ) (x : X) (line : List ℕ)
    → number ≡ n + length l → line ≡ print_line number (fields_of x)
    → print_block fields_of n (l ++ x ∷ []) ≡ print_block fields_of n l ++ line ∷ []
unfolding print_block
block_more fields_of n [] number x line turn e =
    let m : n ≡ number = omega arith in
    ap (λ (k : List ℕ). k ∷ []) (ap (λ (k : ℕ). print_line k (fields_of x)) m ∙ sym e)
block_more fields_of n (y ∷ l) number x line turn e =
    ap (λ (ls : List (List ℕ)). print_line n (fields_of y) ∷ ls) (block_more fields_of (suc n) l number x line (omega arith) e)

-- ---- the printed lines of what is declared so far

-- the block of tables
abbrev pub table_lines : Declared → List (List ℕ)
table_lines d = table_columns ∷ print_block table_fields 1 d.widths

-- the block of views
abbrev pub view_lines : Declared → List (List ℕ)
view_lines d = view_table_terms ∷ print_block line_fields 1 d.views

-- up to the block that is being read
unfoldable pub so_far : Block → Declared → List (List ℕ)
unfolding print_lines
so_far tables d = table_lines d
so_far views d = table_lines d ++ view_lines d
so_far partitions d = print_lines d

-- a line that declares something is the next of them
pub so_far_more : (b : Block) (d d' : Declared) (l : List ℕ) → enter b d l ≡ entered d' → so_far b d' ≡ so_far b d ++ l ∷ []
unfolding enter so_far print_lines
so_far_more tables d d' l h =
    let (e, r, f, a) = entry_only_taken _ _ (table_line l) d' h in
    let t = (table_taken d e).0 f in
    ap (so_far tables) (sym a)
    ∙ ap (λ (ls : List (List ℕ)). table_columns ∷ ls)
    (block_more table_fields 1 d.widths e.number e.value l (omega (arith, t.turn)) (table_read l e r))
so_far_more views d d' l h =
    let (e, r, f, a) = entry_only_taken _ _ (view_line l) d' h in
    let t = (view_taken d e).0 f in
    ap (so_far views) (sym a)
    ∙ ap (λ (ls : List (List ℕ)). table_lines d ++ view_table_terms ∷ ls)
    (block_more line_fields 1 d.views e.number e.value l (omega (arith, t.turn)) (view_read l e r))
    ∙ sym (append_assoc (table_lines d) (view_lines d) (l ∷ []))
so_far_more partitions d d' l h =
    let (e, r, f, a) = entry_only_taken _ _ (partition_line l) d' h in
    let t = (partition_taken d e).0 f in
    let last = partition_views ∷ print_block partition_fields 1 d.partitions in
    ap (so_far partitions) (sym a)
    ∙ ap (λ (ls : List (List ℕ)). table_lines d ++ (view_lines d ++ partition_views ∷ ls))
    (block_more partition_fields 1 d.partitions e.number e.value l (omega (arith, t.turn)) (partition_read l e r))
    ∙ ap (λ (ls : List (List ℕ)). table_lines d ++ ls) (sym (append_assoc (view_lines d) last (l ∷ [])))
    ∙ sym (append_assoc (table_lines d) (view_lines d ++ last) (l ∷ []))
