-- A rule's text taken apart: its end, and the first bracket that closes.
use mathlib.Core.Path.{◌≡◌, refl, sym, ap, ◌∙◌}
use mathlib.Core.Bool.{true, false}
use mathlib.Core.List.{List, [], ◌∷◌, ◌++◌}
use mathlib.Core.Option.{Option, none, some}
use Prim.Native.Nat.{ℕ, ◌+◌, ◌-◌, ◌<◌, zero-le, suc-le-suc}
use native.Mathlib.Numerals.{add-one}
use native.Mathlib.Omega.{arith}
use lib.Dec.{eqb}
use lib.ListN.{length, take, drop, length-append, take-append-drop}
use lib.Seq.{drop-append_seam}
use lib.Pointwise.{pointwise}
use Rattle.std.specs.Cmp.Lexicographic.{same_text, other_text}
use Rattle.text.specs.Lines.{before, parts}
use Rattle.text.specs.Names.{bytes}
use Rattle.text.proofs.Lines.{before_le, parts_last, parts_more}
use Rattle.text.proofs.Parts.{to_end}
use Rattle.rules.specs.Text.{closing, onto, unended, body_of, rule_of_pieces, rule_of}
use Rattle.rules.proofs.Pieces.{unended_iff}
use Rattle.import.proofs.Faults.{no_rule}

-- what ends a rule
abbrev pub rule_end : List ℕ
rule_end = bytes ")\n"

module _ (rule : List ℕ) where
  ended : (m : List ℕ) → rule ≡ m ++ rule_end → rule_of rule ≡ rule_of_pieces (parts closing m)
  unfolding rule_of onto bytes
  ended m e = rw ((unended_iff rule_end rule m (suc-le-suc zero-le)).1 e)

  not_ended : ((m : List ℕ) → rule ≡ m ++ rule_end → ⊥) → rule_of rule ≡ none
  unfolding rule_of onto bytes
  not_ended f = go (unended rule_end rule) refl
    where
      go : (o : Option (List ℕ)) → unended rule_end rule ≡ o → onto (λ m. rule_of_pieces (parts closing m)) o ≡ none
      go none q = refl
      go (some m) q = absurd (f m ((unended_iff rule_end rule m (suc-le-suc zero-le)).0 q))

  end_seam : (m : List ℕ) → rule ≡ m ++ rule_end → drop (length rule - 2) rule ≡ rule_end
  unfolding bytes
  end_seam m e =
      let long : length rule - 2 ≡ length m = omega (arith, ap length e, length-append m rule_end) in
      rw (long, e) (drop-append_seam m rule_end)

  pub other_end : pointwise eqb (drop (length rule - 2) rule) rule_end ≡ false → rule_of rule ≡ none
  other_end f = not_ended (λ m e. other_text (drop (length rule - 2) rule) rule_end (sym f) (end_seam m e))

  module _ {whole : List ℕ} (ends : pointwise eqb (drop (length rule - 2) rule) rule_end ≡ true) (front : whole ≡ take (length rule - 2) rule) where
    pieces : rule_of rule ≡ rule_of_pieces (parts closing whole)
    pieces =
        ended whole
        (sym (take-append-drop (length rule - 2) rule)
        ∙ rw front (ap (λ (l : List ℕ). take (length rule - 2) rule ++ l) (same_text (drop (length rule - 2) rule) rule_end (sym ends))))

    module _ {h : ℕ} (first : h ≡ before closing whole) where
      pub one_piece : h ≡ length whole → rule_of rule ≡ none
      unfolding body_of
      one_piece e = pieces ∙ rw (parts_last closing whole (sym first ∙ e)) (no_rule whole [] refl)

      pub two_pieces : (h ≡ length whole → ⊥)
          → rule_of rule ≡ rule_of_pieces (take h whole ∷ parts closing (take (length whole - (h + 1)) (drop (h + 1) whole)))
      two_pieces n =
          let inside : before closing whole < length whole = omega (arith, before_le closing whole, first, n) in
          pieces ∙ rw (to_end (h + 1) whole, add-one h, first) (ap rule_of_pieces (parts_more closing whole inside))
