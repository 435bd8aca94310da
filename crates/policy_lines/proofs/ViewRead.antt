-- A view's line: its first field is its number, and the others are a line of terms.
use mathlib.Core.Path.{◌≡◌, refl, sym, ap, ◌∙◌}
use mathlib.Core.Bool.{Bool, true, false, cond}
use mathlib.Core.List.{List}
use mathlib.Core.Option.{Option, none, some}
use Prim.Native.Nat.{ℕ, ◌+◌, ◌-◌, ◌<◌}
use lib.ListN.{length, take, drop}
use Rattle.theory.specs.Query.{Line}
use Rattle.text.specs.Lines.{space, before}
use Rattle.text.specs.Value.{numeral_value}
use Rattle.text.specs.declared.Numeral.{Numeral}
use Rattle.text.specs.declared.Numeral.TheVariants.{Malformed}
use Rattle.text.proofs.PartsFrom.{from_rest}
use Rattle.model.specs.Fields.{Numbered, line_of_fields, query_line, view_line}
use Rattle.model.specs.Limits.{most_views, line_within}
use Rattle.model.specs.Parsed.{blank_value, good_value, parsed_line, up_to_value}
use Rattle.model.specs.declared.Parsed.{Parsed}
use Rattle.model.proofs.UpTo.{views_small}
use Rattle.policy_lines.specs.Value.{no_view, view_value}
use Rattle.policy_lines.proofs.Numbered.{NumberRead, number_alone, number_read, unnumbered}
use Rattle.policy_lines.proofs.Told.{Told, malformed, past, within, entry_malformed, entry_outside, entry_past, entry_within}

told_line : (q : Option Line) → Told line_within q (parsed_line q).ok (parsed_line q).outside
unfolding parsed_line blank_value good_value
told_line none = malformed refl refl
told_line (some A) = go (line_within A) refl
  where
    read : Bool → Parsed
    read t = cond t (good_value A.table A.columns) (blank_value true true)

    go : (t : Bool) → line_within A ≡ t → Told line_within (some A) (read t).ok (read t).outside
    go true e = within A refl e refl refl
    go false e = past A refl e refl refl

pub view_alone : (s : List ℕ) {n : ℕ} → n ≡ before space s → n ≡ length s → no_view false ≡ view_value (view_line s)
unfolding view_value view_line line_of_fields
view_alone s e f = ap view_value (sym (number_alone line_of_fields s e f refl))

module _ (s : List ℕ) {n : ℕ} {number : Numeral} (first : n ≡ before space s) (read : number ≡ numeral_value (take n s)) where
  pub view_unnumbered : number ≡ Malformed → no_view false ≡ view_value (view_line s)
  unfolding view_value view_line
  view_unnumbered e = ap view_value (sym (unnumbered (number_read line_of_fields s first read refl) e))

  pub view_read : n < length s → NumberRead (view_line s) number (query_line (take (length s - (n + 1)) (drop (n + 1) s)))
  unfolding view_line query_line
  view_read h = number_read line_of_fields s first read (ap line_of_fields (from_rest space s n h))

module _ {l : Option (Numbered Line)} {number : Numeral} {p : Parsed} {q : Option Line}
    (r : NumberRead l number q) (said : p ≡ parsed_line q) where
  told : Told line_within q p.ok p.outside
  told = rw said (told_line q)

  pub view_malformed : p.ok ≡ false → no_view false ≡ view_value l
  unfolding view_value
  view_malformed e = ap view_value (sym (entry_malformed r told most_views views_small e))

  pub view_outside : p.ok ≡ true → p.outside ≡ true → (number ≡ Malformed → ⊥) → no_view true ≡ view_value l
  unfolding view_value
  view_outside ok e f = let w = entry_outside r told most_views views_small ok e f in sym (ap view_value w.1 ∙ rw w.2)

  pub view_past : {k : ℕ} → p.ok ≡ true → (number ≡ Malformed → ⊥) → k ≡ up_to_value number most_views → k ≡ 0
      → no_view true ≡ view_value l
  unfolding view_value
  view_past ok f up e = let w = entry_past r told most_views views_small ok f up e in sym (ap view_value w.1 ∙ rw w.2)

  pub view_within : {k : ℕ} → p.ok ≡ true → p.outside ≡ false → k ≡ up_to_value number most_views → (k ≡ 0 → ⊥)
      → record { ok = true; outside = false; number = k; view = p } ≡ view_value l
  unfolding view_value parsed_line
  view_within {k} ok e up f =
      let w = entry_within r told most_views views_small ok e up f in
      let is : p ≡ good_value w.0.table w.0.columns = said ∙ ap parsed_line w.1 ∙ rw w.2 in
      sym
      (ap view_value w.3 ∙ rw w.4 (ap (λ (v : Parsed). record { ok = true; outside = false; number = k; view = v }) (sym is)))
