-- The words of an explanation, from the pieces that they are written in.
use mathlib.Core.Path.{◌≡◌, refl, sym, ap, ◌∙◌}
use mathlib.Core.Bool.{Bool, cond}
use mathlib.Core.List.{List, [], ◌∷◌, ◌++◌, append_assoc, append-nil}
use Prim.Native.Nat.{ℕ, ◌+◌, ◌≤◌, ◌<◌}
use native.Mathlib.Numerals.{add-one}
use native.Mathlib.Omega.{arith}
use lib.ListN.{length, take, get_or}
use lib.Seq.{take-suc, length-take-le}
use Rattle.words.specs.Bits.{is_set}
use Rattle.theory.specs.Query.{Line}
use Rattle.text.specs.Lines.{newline}
use Rattle.text.specs.Names.{bytes}
use Rattle.model.specs.Limits.{most_views}
use Rattle.policy_text.proofs.Grants.{in_views}
use Rattle.writing.specs.Wrote.{Wrote}
use Rattle.writing.proofs.Wrote.{wrote_as, wrote_more}
use Rattle.page.specs.Numbers.{views_of_word, HoldsViews}
use Rattle.page.specs.declared.views.ViewNumbers.{ViewNumbers}
use Rattle.view_texts.specs.ViewTexts.{InRange, view_list}
use Rattle.mode_explain.specs.ExplainPage.{view_lines, word_lines, explanation}

-- ---- the views of a word

pub views_ranged : (word : ℕ) → InRange (views_of_word word)
unfolding views_of_word
views_ranged word n i = let r = in_views (is_set word) most_views n i in (r.0, r.1)

module _ (views : List Line) where
  -- none, and some
  none_lines : (ns : List ℕ) → length ns ≡ 0 → bytes "views none" ++ newline ∷ [] ≡ view_lines views ns
  unfolding view_lines
  none_lines [] e = refl
  none_lines (n ∷ ns) e = absurd (omega (arith, e))

  some_lines : (ns : List ℕ) → (length ns ≡ 0 → ⊥) → view_list (bytes "views") views ns ≡ view_lines views ns
  unfolding view_lines
  some_lines [] f = absurd (f refl)
  some_lines (n ∷ ns) f = refl

  module _ {word : ℕ} {v : ViewNumbers} (h : HoldsViews word v) (long : v.count ≤ length v.numbers) where
    count_is : length (views_of_word word) ≡ v.count
    count_is = sym (ap length h.are) ∙ length-take-le v.count v.numbers long

    pub no_views : v.count ≡ 0 → bytes "views none" ++ newline ∷ [] ≡ view_lines views (views_of_word word)
    no_views e = none_lines (views_of_word word) (count_is ∙ e)

    pub some_views : (v.count ≡ 0 → ⊥)
        → view_list (bytes "views") views (take v.count v.numbers) ≡ view_lines views (views_of_word word)
    some_views f =
        ap (view_list (bytes "views") views) h.are ∙ some_lines (views_of_word word) (λ e. f (sym count_is ∙ e))

  -- ---- words

  words_last : (l : List ℕ) (w : ℕ) → word_lines views l ++ view_lines views (views_of_word w) ≡ word_lines views (l ++ w ∷ [])
  unfolding word_lines
  words_last [] w = sym (append-nil (view_lines views (views_of_word w)))
  words_last (x ∷ l) w =
      append_assoc (view_lines views (views_of_word x)) (word_lines views l) (view_lines views (views_of_word w))
      ∙ ap (λ (m : List ℕ). view_lines views (views_of_word x) ++ m) (words_last l w)

  pub wrote_word : {a b c : List ℕ} {at j k : ℕ} (ws : List ℕ) (i : ℕ) → Wrote a at (word_lines views (take i ws)) b j
      → Wrote b j (view_lines views (views_of_word (get_or ws i 0))) c k → i < length ws → Wrote a at (word_lines views (take (i + 1) ws)) c k
  wrote_word ws i v w h =
      wrote_as
      (words_last (take i ws) (get_or ws i 0)
      ∙ ap (word_lines views) (sym (take-suc ws i 0 h) ∙ ap (λ (m : ℕ). take m ws) (sym (add-one i))))
      (wrote_more v w)

  -- behind whether it is settled
  pub wrote_explanation : (settles : Bool) (ws : List ℕ) {a b c said : List ℕ} {at j k : ℕ}
      → said ≡ cond settles (bytes "settled") (bytes "not settled") → Wrote a at (said ++ newline ∷ []) b j
      → Wrote b j (word_lines views ws) c k → Wrote a at (explanation views settles ws) c k
  unfolding explanation
  wrote_explanation settles ws {said = said} e v w =
      wrote_as (append_assoc said (newline ∷ []) (word_lines views ws) ∙ ap (λ (s : List ℕ). s ++ newline ∷ word_lines views ws) e)
      (wrote_more v w)
