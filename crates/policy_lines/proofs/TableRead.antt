-- A table's line: its first field is its number, and the other its columns.
use mathlib.Core.Path.{◌≡◌, refl, sym, ap, ◌∙◌}
use mathlib.Core.Bool.{Bool, true, false, cond, ◌&&◌, and-false}
use mathlib.Core.List.{List, [], ◌∷◌, ◌++◌}
use mathlib.Core.Option.{Option, none}
use Prim.Native.Nat.{ℕ, suc, ◌+◌, ◌-◌, ◌<◌}
use native.Mathlib.Nat.{not-suc-le-zero, le_of_suc-le-suc}
use native.Mathlib.Decide.{dec_lt}
use native.Mathlib.Omega.{arith}
use lib.Dec.{eqb}
use lib.ListN.{length, take, drop}
use borrow.Author.Tests.{eqb-true}
use Rattle.text.specs.Lines.{space, split, fields, before}
use Rattle.text.specs.Numeral.{is_digit, all_digits, is_numeral, numeral}
use Rattle.text.specs.Value.{limited, numeral_value}
use Rattle.text.specs.declared.Numeral.{Numeral}
use Rattle.text.specs.declared.Numeral.TheVariants.{Malformed}
use Rattle.text.proofs.Lines.{before_le, parts_last, parts_more}
use Rattle.text.proofs.PartsFrom.{from_rest}
use Rattle.model.specs.Fields.{Numbered, one_numeral, table_line}
use Rattle.model.specs.Limits.{most_columns, most_tables}
use Rattle.model.specs.Parsed.{up_to_value}
use Rattle.model.proofs.UpTo.{tables_small, columns_small, malformed_none, formed_some, number_past, number_within}
use Rattle.policy_lines.specs.Value.{no_table, table_value}
use Rattle.policy_lines.proofs.Numbered.{NumberRead, number_alone, number_read, unnumbered, nothing_read, numbered_past, numbered_formed, numbered_within}

-- ---- the one numeral behind the number

-- a space is no digit
space_within : (l : List ℕ) → before space l < length l → all_digits l ≡ false
unfolding before all_digits is_digit
space_within [] h = absurd (not-suc-le-zero h)
space_within (x ∷ l) h = go (eqb x space) refl h (λ k. space_within l k)
  where
    go : (t : Bool) → eqb x space ≡ t → cond t 0 (suc (before space l)) < suc (length l)
        → (before space l < length l → all_digits l ≡ false) → (is_digit x && all_digits l) ≡ false
    go true e k ih = rw (eqb-true x space e)
    go false e k ih = rw (ih (le_of_suc-le-suc k), and-false)

-- two fields or more
others : (f : List ℕ) (gs : List (List ℕ)) (g : List ℕ) → one_numeral (f ∷ (gs ++ g ∷ [])) ≡ none
unfolding one_numeral
others f [] g = refl
others f (h ∷ gs) g = refl

one_numeral_lem : (r : List ℕ) → one_numeral (fields r) ≡ numeral r
unfolding one_numeral numeral is_numeral fields
one_numeral_lem r = go (dec_lt (before space r) (length r))
  where
    go : Dec (before space r < length r) → one_numeral (fields r) ≡ numeral r
    go (yes h) =
        let p = split space (drop (suc (before space r)) r) in
        ap one_numeral (parts_more space r h) ∙ others (take (before space r) r) p.ended p.rest ∙ rw (space_within r h)
    go (no h) = ap one_numeral (parts_last space r (omega (arith, before_le space r)))

-- ---- the line

pub table_alone : (s : List ℕ) {n : ℕ} → n ≡ before space s → n ≡ length s → no_table false ≡ table_value (table_line s)
unfolding table_value table_line one_numeral
table_alone s e f = ap table_value (sym (number_alone one_numeral s e f refl))

module _ (s : List ℕ) {n : ℕ} {number : Numeral} (first : n ≡ before space s) (read : number ≡ numeral_value (take n s)) where
  pub table_unnumbered : number ≡ Malformed → no_table false ≡ table_value (table_line s)
  unfolding table_value table_line
  table_unnumbered e = ap table_value (sym (unnumbered (number_read one_numeral s first read refl) e))

  pub table_read : n < length s → NumberRead (table_line s) number (numeral (take (length s - (n + 1)) (drop (n + 1) s)))
  unfolding table_line
  table_read h =
      number_read one_numeral s first read
      (ap one_numeral (from_rest space s n h) ∙ one_numeral_lem (take (length s - (n + 1)) (drop (n + 1) s)))

module _ {l : Option (Numbered ℕ)} {number columns : Numeral} {q : Option ℕ} (r : NumberRead l number q) (said : columns ≡ limited q) where
  pub columns_malformed : columns ≡ Malformed → no_table false ≡ table_value l
  unfolding table_value
  columns_malformed e = ap table_value (sym (nothing_read r (malformed_none q (sym said ∙ e))))

  pub table_past : {k : ℕ} → (number ≡ Malformed → ⊥) → (columns ≡ Malformed → ⊥) → k ≡ up_to_value number most_tables → k ≡ 0
      → no_table true ≡ table_value l
  unfolding table_value
  table_past f g up e =
      let x = formed_some q (λ z. g (said ∙ z)) in
      let w = numbered_past r most_tables tables_small up x.1 f e in
      sym (ap table_value w.1 ∙ rw w.2)

  columns_up : {m : ℕ} → m ≡ up_to_value columns most_columns → m ≡ up_to_value (limited q) most_columns
  columns_up up = up ∙ ap (λ (n : Numeral). up_to_value n most_columns) said

  pub columns_past : {m : ℕ} → (number ≡ Malformed → ⊥) → (columns ≡ Malformed → ⊥) → m ≡ up_to_value columns most_columns → m ≡ 0
      → no_table true ≡ table_value l
  unfolding table_value
  columns_past f g up e =
      let x = number_past most_columns columns_small q (λ z. g (said ∙ z)) (sym (columns_up up) ∙ e) in
      let w = numbered_formed r x.1 f in
      sym (ap table_value w.1 ∙ rw (x.2, and-false))

  pub table_within : {k m : ℕ} → k ≡ up_to_value number most_tables → (k ≡ 0 → ⊥) → m ≡ up_to_value columns most_columns → (m ≡ 0 → ⊥)
      → record { ok = true; outside = false; number = k; columns = m } ≡ table_value l
  unfolding table_value
  table_within {k} {m} up f wide g =
      let x = number_within most_columns columns_small q (λ z. g (columns_up wide ∙ z)) in
      let is : m ≡ x.0 = columns_up wide ∙ x.3 in
      let w = numbered_within r most_tables tables_small up x.1 f in
      sym
      (ap table_value w.0
      ∙ rw (w.1, x.2) (ap (λ (c : ℕ). record { ok = true; outside = false; number = k; columns = c }) (sym is)))
