-- Bytes between two places of a text: one byte, two parts, and the text behind a place.
use mathlib.Core.Path.{◌≡◌, sym, ap, ◌∙◌}
use mathlib.Core.List.{List, [], ◌∷◌, ◌++◌, append-nil, append_assoc}
use Prim.Native.Nat.{ℕ, ◌+◌, ◌≤◌, ◌<◌}
use native.Mathlib.Numerals.{add-one}
use native.Mathlib.Omega.{arith}
use lib.ListN.{length, get_or, take, drop, length-append, length-drop, take-append-drop, get_or-append}
use lib.Seq.{length-take-le, take-suc, take-add, drop_at, get_or-drop}
use Rattle.text.specs.Lines.{newline}
use Rattle.text.specs.Names.{table_terms}
use Rattle.scan.specs.Places.{Between}

module _ {text : List ℕ} where
  pub between_none : (at : ℕ) → at ≤ length text → Between text at at []
  between_none at h = record { within = h; long = omega arith; are = sym (append-nil (take at text)) }

  pub between_one : (at b : ℕ) → at < length text → get_or text at 0 ≡ b → Between text at (at + 1) (b ∷ [])
  between_one at b h e =
      record {
        within = omega arith;
        long = omega arith;
        are = rw add-one (take-suc text at 0 h ∙ ap (λ (x : ℕ). take at text ++ x ∷ []) e);
      }

  pub between_both : {at mid end : ℕ} {x y : List ℕ} → Between text at mid x → Between text mid end y → Between text at end (x ++ y)
  between_both {at} {mid} {end} {x} {y} p q =
      record {
        within = q.within;
        long = simp length-append (omega arith);
        are = q.are ∙ ap (λ (l : List ℕ). l ++ y) p.are ∙ append_assoc (take at text) x y;
      }

  pub between_two : (at b c : ℕ) → at + 1 < length text → get_or text at 0 ≡ b → get_or text (at + 1) 0 ≡ c
      → Between text at (at + 2) (b ∷ c ∷ [])
  between_two at b c h e f =
      let two : at + 1 + 1 ≡ at + 2 = omega arith in
      rw two at (between_both (between_one at b (omega arith) e) (between_one (at + 1) c h f))

  -- a part of the text from a place on
  pub between_part : (at n : ℕ) (l : List ℕ) → at + n ≤ length text → take n (drop at text) ≡ l → Between text at (at + n) l
  between_part at n l h e =
      let long = ap length (sym e) ∙ length-take-le n (drop at text) (simp length-drop (omega arith)) in
      record { within = h; long = omega (arith, long); are = take-add at n text ∙ ap (λ (m : List ℕ). take at text ++ m) e }

  -- a names line
  pub names_there : (at : ℕ) → at + 11 < length text → take 11 (drop at text) ≡ table_terms → get_or text (at + 11) 0 ≡ newline
      → Between text at (at + 12) (table_terms ++ newline ∷ [])
  names_there at h e f =
      let ended : at + 11 + 1 ≡ at + 12 = omega arith in
      rw ended at (between_both (between_part at 11 table_terms (omega arith) e) (between_one (at + 11) newline h f))

  module _ {at end : ℕ} {bytes : List ℕ} (p : Between text at end bytes) where
    pub between_drop : drop at text ≡ bytes ++ drop end text
    between_drop =
        ap (drop at)
        (sym (take-append-drop end text)
        ∙ ap (λ (l : List ℕ). l ++ drop end text) p.are
        ∙ append_assoc (take at text) bytes (drop end text))
        ∙ drop_at (take at text) (bytes ++ drop end text) at (length-take-le at text (omega (arith, p.within, p.long)))

    pub between_first : 0 < length bytes → get_or bytes 0 0 ≡ get_or text at 0
    between_first h =
        let here : at + 0 ≡ at = omega arith in
        sym (get_or-append bytes (drop end text) 0 0 h)
        ∙ ap (λ (l : List ℕ). get_or l 0 0) (sym between_drop)
        ∙ get_or-drop at text 0 0
        ∙ ap (λ (k : ℕ). get_or text k 0) here
