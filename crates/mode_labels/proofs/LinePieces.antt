-- The lines of labels, from the pieces that they are written in.
use mathlib.Core.Path.{◌≡◌, sym, ap, ◌∙◌}
use mathlib.Core.List.{List, [], ◌∷◌, ◌++◌, append_assoc, append-nil}
use Prim.Native.Nat.{ℕ, ◌+◌, ◌/◌, ◌%◌, ◌^◌, ◌<◌}
use native.Mathlib.Numerals.{add-one}
use lib.ListN.{length, take, get_or}
use lib.Seq.{take-suc}
use Rattle.words.specs.Bits.{half_bits}
use Rattle.text.specs.Lines.{space, newline}
use Rattle.text.specs.Names.{bytes}
use Rattle.text.specs.Print.{decimal}
use Rattle.writing.specs.Wrote.{Wrote}
use Rattle.writing.proofs.Wrote.{wrote_as, wrote_more}
use Rattle.page.specs.Numbers.{views_of_word, spaced_numbers}
use Rattle.page.proofs.Refused.{cons_append}
use Rattle.mode_labels.specs.LabelLines.{label_line, label_lines}

-- ---- a line

joined : (a w b t c v e : List ℕ)
    → (((((a ++ space ∷ w) ++ b) ++ space ∷ t) ++ c) ++ v) ++ e ≡ a ++ space ∷ w ++ b ++ space ∷ t ++ c ++ v ++ e
joined a w b t c v e = simp (append_assoc, cons_append)

pub wrote_label : (w table : ℕ) (views : List ℕ) → table ≡ w % 2 ^ half_bits → views ≡ views_of_word (w / 2 ^ half_bits)
    → {o₀ o₁ o₂ o₃ o₄ o₅ o₆ o₇ : List ℕ} {at a b c d e f r : ℕ} → Wrote o₀ at (bytes "label") o₁ a → Wrote o₁ a (space ∷ decimal w) o₂ b
    → Wrote o₂ b (bytes " table") o₃ c → Wrote o₃ c (space ∷ decimal table) o₄ d → Wrote o₄ d (bytes " views") o₅ e
    → Wrote o₅ e (spaced_numbers views) o₆ f → Wrote o₆ f (newline ∷ []) o₇ r → Wrote o₀ at (label_line w) o₇ r
unfolding label_line
wrote_label w table views t v p q s u x y z =
    wrote_as
    (joined (bytes "label") (decimal w) (bytes " table") (decimal table) (bytes " views") (spaced_numbers views) (newline ∷ []) ∙ rw (t, v))
    (wrote_more (wrote_more (wrote_more (wrote_more (wrote_more (wrote_more p q) s) u) x) y) z)

-- ---- lines

lines_last : (l : List ℕ) (w : ℕ) → label_lines l ++ label_line w ≡ label_lines (l ++ w ∷ [])
unfolding label_lines
lines_last [] w = sym (append-nil (label_line w))
lines_last (x ∷ l) w = append_assoc (label_line x) (label_lines l) (label_line w) ∙ ap (λ (m : List ℕ). label_line x ++ m) (lines_last l w)

pub wrote_next_label : {a b c : List ℕ} {at j k : ℕ} (ws : List ℕ) (i : ℕ) → Wrote a at (label_lines (take i ws)) b j
    → Wrote b j (label_line (get_or ws i 0)) c k → i < length ws → Wrote a at (label_lines (take (i + 1) ws)) c k
wrote_next_label ws i v w h =
    wrote_as
    (lines_last (take i ws) (get_or ws i 0) ∙ ap label_lines (sym (take-suc ws i 0 h) ∙ ap (λ (m : ℕ). take m ws) (sym (add-one i))))
    (wrote_more v w)
