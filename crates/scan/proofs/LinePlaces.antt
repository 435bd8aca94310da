-- A line between two places of an input, and how the cut goes on over it: a line of a query joins the query begun, a names line starts one.
use mathlib.Core.Path.{◌≡◌, refl, sym, ap, ◌∙◌}
use mathlib.Core.Bool.{Bool, true, false, ◌&&◌}
use mathlib.Core.List.{List, [], ◌∷◌, ◌++◌, append_assoc, Memᴰ, head-eq_of_cons-eq}
use Prim.Native.Nat.{ℕ, ◌+◌, ◌≤◌, ◌<◌}
use native.Mathlib.Omega.{arith}
use borrow.Author.Tests.{lt-ltb}
use lib.Dec.{ltb}
use lib.ListN.{length, take, drop, length-append}
use lib.Seq.{take-append_seam}
use Rattle.theory.specs.Query.{Line}
use Rattle.text.specs.Lines.{newline, before, same_bytes}
use Rattle.text.specs.Names.{bytes, table_terms}
use Rattle.text.specs.Print.{decimal}
use Rattle.text.specs.declared.Cursor.{Cursor}
use Rattle.text.proofs.Decimals.{decimal_digits, some_digit}
use Rattle.text.proofs.Each.{Each}
use Rattle.text.proofs.Joined.{LineByte, joined_clean, table_terms_clean}
use Rattle.text.proofs.Lines.{before_ended}
use Rattle.text.proofs.Names.{same_true, same_false}
use Rattle.text.proofs.NextLines.{front, LineAt, ends_here}
use Rattle.text.proofs.Parts.{to_end}
use Rattle.model.specs.Print.{spaced, line_fields, print_query_line}
use Rattle.model.proofs.Printed.{line_clean}
use Rattle.model.proofs.Spaced.{line_bytes}
use Rattle.cutting.specs.NextCut.{NextCut}
use Rattle.cutting.proofs.Walk.{Walked, walked_none, walked_more, cuts}
use Rattle.scan.specs.Places.{Between}
use Rattle.scan.proofs.Places.{between_drop}

-- ---- a line

module _ {text : List ℕ} {at end : ℕ} (l : List ℕ) (clean : Each LineByte l) (p : Between text at end (l ++ newline ∷ [])) where
  from : drop at text ≡ l ++ newline ∷ drop end text
  from = between_drop p ∙ append_assoc l (newline ∷ []) (drop end text)

  before_end : before newline (drop at text) ≡ length l
  before_end = rw from (before_ended newline l (drop end text) (λ x m e. let k = clean x m in omega arith))

  abbrev cursor : Cursor
  cursor = record { at = length l + 1; line = 1 }

  whole : at + cursor.at ≡ end
  whole = omega (arith, p.long, length-append l (newline ∷ []))

  line_at : LineAt text at cursor
  line_at =
      let place : length l + 1 ≡ before newline (drop at text) + 1 = rw before_end in
      let long = ap length from ∙ length-append l (newline ∷ drop end text) in
      ends_here text at {k = 0} (record { place = rw (to_end at text) place; number = refl }) (rw (to_end at text) (omega arith))

  bytes_are : front (drop at text) ≡ l
  bytes_are = ap (λ (n : ℕ). take n (drop at text)) before_end ∙ rw from (take-append_seam l (newline ∷ drop end text))

  joins : Walked text at → (ltb 0 at && same_bytes l table_terms) ≡ false → Walked text end
  joins w e = rw whole at (walked_more w line_at (rw bytes_are e))

  starts : Walked text at → (ltb 0 at && same_bytes l table_terms) ≡ true → NextCut text at
  starts w e = cuts w line_at (rw bytes_are e)

-- ---- names lines

module _ {text : List ℕ} where
  -- the first line of an input
  pub names_first : {end : ℕ} → Between text 0 end (table_terms ++ newline ∷ []) → Walked text end
  names_first p = joins table_terms table_terms_clean p (walked_none text) refl

  -- behind a query begun
  pub names_next : {at end : ℕ} → Walked text at → 0 < at → Between text at end (table_terms ++ newline ∷ []) → NextCut text at
  names_next {at} w h p = starts table_terms table_terms_clean p w (rw (lt-ltb 0 at h) (sym (same_true table_terms table_terms refl)))

-- ---- lines of a query

-- a line that begins with a digit is no names line
not_names : (A : Line) → print_query_line A ≡ table_terms → ⊥
unfolding table_terms bytes
not_names A e = go (decimal A.table) (some_digit A.table) (decimal_digits A.table) (sym (line_bytes A) ∙ e)
  where
    go : (ds : List ℕ) → 1 ≤ length ds → ((x : ℕ) → Memᴰ x ds → (48 ≤ x) × (x ≤ 57)) → ds ++ spaced A.columns ≡ table_terms → ⊥
    go [] h d q = omega arith
    go (x ∷ ds) h d q = let k = d x (Memᴰ.head refl) in omega (arith, head-eq_of_cons-eq q)

pub line_next : {text : List ℕ} {at end : ℕ} (A : Line) → Walked text at → Between text at end (print_query_line A ++ newline ∷ [])
    → Walked text end
unfolding print_query_line
line_next {at = at} A w p =
    joins (print_query_line A) (joined_clean (line_fields A) (line_clean A)) p w (other (ltb 0 at))
  where
    other : (b : Bool) → (b && same_bytes (print_query_line A) table_terms) ≡ false
    other true = sym (same_false (print_query_line A) table_terms (not_names A))
    other false = refl
