-- The loop over the lines of a file of rules: what is written so far, and what is still to come.
use mathlib.Core.Path.{◌≡◌, refl, sym, ap, ◌∙◌}
use mathlib.Core.List.{List, [], ◌∷◌, ◌++◌, append_assoc, append-nil}
use Prim.Native.Nat.{ℕ, suc, ◌+◌, ◌*◌, ◌≤◌, ◌<◌}
use native.Mathlib.Decide.{dec_lt}
use native.Mathlib.Nat.{not-suc-le-zero}
use native.Mathlib.Numerals.{add-one}
use native.Mathlib.Omega.{arith}
use lib.ListN.{length, length-append, length-take}
use lib.Seq.{take_all}
use Rattle.text.specs.Lines.{newline, lines, split, before}
use Rattle.text.proofs.Lines.{before_le}
use Rattle.text.proofs.NextLines.{front, back, of_tail, of_line}
use Rattle.model.specs.declared.Tables.{Tables}
use Rattle.writing.specs.Wrote.{Wrote}
use Rattle.writing.proofs.Wrote.{wrote_as, wrote_none, wrote_more}
use Rattle.page.proofs.Pieces.{FirstPiece}
use Rattle.mode_rules.specs.Sizes.{each_byte}
use Rattle.mode_rules.specs.RulesPage.{rule_bytes, rules_from, rules_in}
use Rattle.mode_rules.specs.Writing.{Under, RuleWritten, RulesWritten}

-- ---- the first line of a text

none_left : (widths : List ℕ) (k : ℕ) → rules_in widths k [] ≡ []
unfolding rules_in rules_from lines split
none_left widths k = refl

module _ (widths : List ℕ) (k : ℕ) where
  of_last : (text : List ℕ) → 0 < length text → before newline text ≡ length text → rules_in widths k text ≡ rule_bytes widths k text text
  unfolding rules_in rules_from
  of_last [] h e = absurd (not-suc-le-zero h)
  of_last (b ∷ l) h e = of_tail (rules_from widths k) (b ∷ l) e

  of_first : (text : List ℕ) → before newline text < length text
      → rules_in widths k text ≡ rule_bytes widths k (front text ++ newline ∷ []) (front text) ++ rules_in widths (suc k) (back text)
  unfolding rules_in rules_from
  of_first text h = of_line (rules_from widths k) text h

  pub rules_next : {text piece rest : List ℕ} → 0 < length text → FirstPiece text piece rest
      → rules_in widths k text ≡ rule_bytes widths k piece (front text) ++ rules_in widths (k + 1) rest
  rules_next {text} {piece} {rest} some f = go (dec_lt (before newline text) (length text))
    where
      go : Dec (before newline text < length text)
          → rules_in widths k text ≡ rule_bytes widths k piece (front text) ++ rules_in widths (k + 1) rest
      go (yes h) = rw ((f.ended h).0, (f.ended h).1, add-one k) (of_first text h)
      go (no h) =
          let all : before newline text ≡ length text = omega (arith, before_le newline text) in
          let whole : front text ≡ text = take_all (before newline text) text (omega arith) in
          rw ((f.tail all).0, (f.tail all).1, whole, none_left widths (k + 1))
          (of_last text some all ∙ sym (append-nil (rule_bytes widths k text text)))

-- the line without its end is no longer than with it
pub front_fits : {text piece rest : List ℕ} → FirstPiece text piece rest → length (front text) ≤ length piece
front_fits {text} {piece} f = go (dec_lt (before newline text) (length text))
  where
    go : Dec (before newline text < length text) → length (front text) ≤ length piece
    go (yes h) = omega (arith, ap length (f.ended h).0, length-append (front text) (newline ∷ []))
    go (no h) =
        let all : before newline text ≡ length text = omega (arith, before_le newline text) in
        omega (arith, ap length (f.tail all).0, length-take (before newline text) text)

-- ---- the loop

-- the rules that are left start with number k, and the next bytes go to the place `to`
pub record Progress (tables : Tables) (rules left was is : List ℕ) (k to : ℕ) : Type 0 where
  pub few : k + length left ≤ length rules + 1
  pub room : to + each_byte * length left ≤ each_byte * length rules
  pub size : length is ≡ length was
  pub written : (u : Under tables)
      → (so_far : List ℕ) × Wrote was 0 so_far is to × (so_far ++ rules_in u.widths k left ≡ rules_in u.widths 1 rules)

pub progress_none : (tables : Tables) (rules was : List ℕ) → Progress tables rules rules was was 1 0
progress_none tables rules was =
    record {
      few = omega arith;
      room = omega arith;
      size = refl;
      written = λ u. ([], wrote_none was 0, refl);
    }

module _ {tables : Tables} {rules left was is : List ℕ} {k to : ℕ} (p : Progress tables rules left was is k to) where
  pub progress_all : length left ≡ 0 → RulesWritten tables rules was is to
  progress_all h u =
      let (so_far, w, ahead) = p.written u in
      wrote_as
      (sym (append-nil so_far) ∙ ap (λ (l : List ℕ). so_far ++ l) (sym (nothing left h)) ∙ ahead)
      w
    where
      nothing : (l : List ℕ) → length l ≡ 0 → rules_in u.widths k l ≡ []
      nothing [] e = none_left u.widths k
      nothing (b ∷ l) e = absurd (omega arith)

  pub progress_more : (piece rest : List ℕ) {is' : List ℕ} {to' : ℕ} → FirstPiece left piece rest → left ≡ piece ++ rest → 1 ≤ length piece
      → RuleWritten tables k piece (front left) is to is' to' → to' ≤ to + each_byte * length piece → length is' ≡ length is
      → Progress tables rules rest was is' (k + 1) to'
  progress_more piece rest {is'} {to'} f parts some v b z =
      let long : length left ≡ length piece + length rest = ap length parts ∙ length-append piece rest in
      record {
        few = omega (arith, p.few);
        room = omega (arith, p.room);
        size = z ∙ p.size;
        written = λ u.
            let (so_far, w, ahead) = p.written u in
            let line = rule_bytes u.widths k piece (front left) in
            let next : rules_in u.widths k left ≡ line ++ rules_in u.widths (k + 1) rest
            = rules_next u.widths k (omega arith) f in
            (so_far ++ line, wrote_more w (v u), append_assoc so_far line _ ∙ ap (λ (l : List ℕ). so_far ++ l) (sym next) ∙ ahead);
      }
