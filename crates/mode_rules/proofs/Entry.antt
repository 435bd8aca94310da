-- A rule's bytes on the page, from what importing gave: its text in its place, or the lines that say what turns it back.
use mathlib.Core.Path.{◌≡◌, refl, sym, ap, subst, ◌∙◌}
use mathlib.Core.Logic.{◌⊎◌, inl, inr}
use mathlib.Core.List.{List, [], ◌∷◌, ◌++◌, append_assoc}
use Prim.Native.Nat.{ℕ, ◌+◌, ◌*◌, ◌≤◌}
use native.Mathlib.Omega.{arith}
use lib.ListN.{length, take, drop, length-append}
use lib.Seq.{take_at, length-take-le}
use Rattle.std.specs.Prelude.{Result, Ok, Err}
use Rattle.text.specs.Lines.{space, newline}
use Rattle.text.specs.Names.{bytes}
use Rattle.text.specs.Print.{decimal}
use Rattle.model.specs.declared.Refusal.{Refusal}
use Rattle.query_text.specs.Text.{most_query_bytes}
use Rattle.import.specs.Translating.{Narrow}
use Rattle.import.specs.Import.{Word, says_written, says_refused, SaidImport, said_import, Owed, refusal, text, owed, placed, Gives}
use Rattle.import.proofs.Placed.{placed_rest, placed_long}
use Rattle.writing.specs.Wrote.{Wrote}
use Rattle.writing.proofs.Wrote.{wrote_as, wrote_more}
use Rattle.page.specs.Refusal.{indented}
use Rattle.page.proofs.Refused.{cons_append}
use Rattle.mode_rules.specs.Sizes.{each_byte}
use Rattle.mode_rules.specs.RulesPage.{rule_refused, entry, rule_bytes}
use Rattle.mode_rules.proofs.Owing.{Turned, Taken, owing}

-- ---- the lines of a refusal

joined : (a k b n l s : List ℕ)
    → ((((a ++ (k ++ space ∷ [])) ++ b) ++ (n ++ space ∷ [])) ++ (l ++ newline ∷ [])) ++ s
    ≡ a ++ k ++ space ∷ b ++ n ++ space ∷ l ++ newline ∷ s
joined a k b n l s = simp (append_assoc, cons_append)

pub wrote_refused : (k number line : ℕ) (shown : List ℕ) {o₀ o₁ o₂ o₃ o₄ o₅ o₆ : List ℕ} {at a b c d e r : ℕ}
    → Wrote o₀ at (bytes "rule ") o₁ a → Wrote o₁ a (decimal k ++ space ∷ []) o₂ b → Wrote o₂ b (bytes "refused ") o₃ c
    → Wrote o₃ c (decimal number ++ space ∷ []) o₄ d → Wrote o₄ d (decimal line ++ newline ∷ []) o₅ e
    → Wrote o₅ e (indented shown) o₆ r → Wrote o₀ at (rule_refused k shown number line) o₆ r
unfolding rule_refused
wrote_refused k number line shown s t u v w x =
    wrote_as (joined (bytes "rule ") (decimal k) (bytes "refused ") (decimal number) (decimal line) (indented shown))
    (wrote_more (wrote_more (wrote_more (wrote_more (wrote_more s t) u) v) w) x)

-- ---- a text in its place

placed_wrote : (at : ℕ) (t was : List ℕ) → at + length t ≤ length was → Wrote was at t (placed at t was) (at + length t)
placed_wrote at t was room =
    let front : length (take at was ++ t) ≡ at + length t
    = length-append (take at was) t ∙ ap (λ (n : ℕ). n + length t) (length-take-le at was (omega arith)) in
    record {
      front = take_at (take at was ++ t) (drop (at + length t) was) (at + length t) front;
      next = refl;
      rest = placed_rest at t was room;
      size = placed_long at t was room;
    }

-- ---- the two replies

-- a number for each word, which tells them apart
tag : Word → ℕ
tag says_written = 0
tag says_refused = 1

module _ (widths rule : List ℕ) (k : ℕ) (shown : List ℕ) where
  bytes_taken : (t : Taken widths rule) → t.bytes ≡ rule_bytes widths k rule shown
  unfolding rule_bytes entry
  bytes_taken t = rw (t.owes 0 most_query_bytes (omega (arith, t.short)))

  bytes_turned : (t : Turned widths rule) → rule_refused k shown t.number t.line ≡ rule_bytes widths k rule shown
  unfolding rule_bytes entry
  bytes_turned t = rw (t.owes 0 most_query_bytes)

  module _ (narrow : Narrow widths) (at : ℕ) (r : Result ℕ Refusal) (was is : List ℕ) (room : at + each_byte * length rule ≤ length was)
      (gives : Gives at r was is (owed widths rule at (length was))) where
    given : (o : Owed) → owed widths rule at (length was) ≡ o → Gives at r was is o
    given o e = subst (Gives at r was is) e gives

    pub entry_written : (n : ℕ) → r ≡ Ok n → Wrote was at (rule_bytes widths k rule shown) is (at + n) × (n ≤ each_byte * length rule)
    unfolding said_import tag
    entry_written n e = go (owing widths rule narrow)
      where
        go : Turned widths rule ⊎ Taken widths rule
            → Wrote was at (rule_bytes widths k rule shown) is (at + n) × (n ≤ each_byte * length rule)
        go (inl t) =
            let g = given (refusal t.number t.line) (t.owes at (length was)) in
            let z : ◌≡◌ {A = ℕ} 0 1 =
            ap (λ (i : Result ℕ Refusal). tag (said_import i).word) (sym e) ∙ ap (λ (s : SaidImport). tag s.word) g.0 in
            absurd (omega arith)
        go (inr t) =
            let fits : at + length t.bytes ≤ length was = omega (arith, t.few) in
            let g = given (text t.bytes) (t.owes at (length was) fits) in
            let same : n ≡ length t.bytes =
            ap (λ (i : Result ℕ Refusal). (said_import i).bytes) (sym e) ∙ ap (λ (s : SaidImport). s.bytes) g.0 in
            (rw (same, g.1) (wrote_as (bytes_taken t) (placed_wrote at t.bytes was fits)), omega (arith, same, t.few))

    pub record Back (number line : ℕ) : Type 0 where
      pub stays : is ≡ was
      pub low : number ≤ 12
      pub first : line ≤ 1
      pub are : rule_refused k shown number line ≡ rule_bytes widths k rule shown

    pub entry_turned : (number line : ℕ) → r ≡ Err (record { number = number; line = line }) → Back number line
    unfolding said_import tag
    entry_turned number line e = go (owing widths rule narrow)
      where
        go : Turned widths rule ⊎ Taken widths rule → Back number line
        go (inl t) =
            let g = given (refusal t.number t.line) (t.owes at (length was)) in
            let n : number ≡ t.number =
            ap (λ (i : Result ℕ Refusal). (said_import i).number) (sym e) ∙ ap (λ (s : SaidImport). s.number) g.0 in
            let j : line ≡ t.line =
            ap (λ (i : Result ℕ Refusal). (said_import i).line) (sym e) ∙ ap (λ (s : SaidImport). s.line) g.0 in
            record { stays = g.1; low = omega (arith, n, t.low); first = omega (arith, j, t.first); are = rw (n, j) (bytes_turned t) }
        go (inr t) =
            let fits : at + length t.bytes ≤ length was = omega (arith, t.few) in
            let g = given (text t.bytes) (t.owes at (length was) fits) in
            let z : ◌≡◌ {A = ℕ} 1 0 =
            ap (λ (i : Result ℕ Refusal). tag (said_import i).word) (sym e) ∙ ap (λ (s : SaidImport). tag s.word) g.0 in
            absurd (omega arith)
