-- What the value of words holds for a list.
use mathlib.Core.Path.{◌≡◌, ap, ◌∙◌}
use mathlib.Core.List.{List, [], ◌∷◌, ◌++◌}
use Prim.Native.Nat.{ℕ, ◌+◌, ◌<◌}
use native.Mathlib.Omega.{arith}
use lib.ListN.{length, get_or, take, set, length-append}
use Rattle.model.specs.Limits.{most_lines}
use Rattle.model.proofs.Pad.{pad_get, pad_take, pad_more}
use Rattle.word_list.specs.Value.{words_value}
use Rattle.word_list.specs.declared.Words.{Words}

module _ (w : Words) (l : List ℕ) (e : w ≡ words_value l) where
  pub count_is : w.count ≡ length l
  unfolding words_value
  count_is = ap (λ (x : Words). x.count) e

  pub word_is : (i : ℕ) → get_or w.words i 0 ≡ get_or l i 0
  unfolding words_value
  word_is i = ap (λ (x : Words). get_or x.words i 0) e ∙ pad_get most_lines 0 l i

  -- the words that are counted
  pub words_are : take w.count w.words ≡ l
  unfolding words_value
  words_are = ap (λ (x : Words). take x.count x.words) e ∙ pad_take most_lines 0 l

  -- one more behind them
  pub words_pushed : (x : ℕ) → w.count < most_lines
      → ◌≡◌ {A = Words} (record { count = w.count + 1; words = set w.words w.count x }) (words_value (l ++ x ∷ []))
  unfolding words_value
  words_pushed x h =
      let more : w.count + 1 ≡ length (l ++ x ∷ []) = simp length-append (omega (arith, count_is)) in
      let all = ap (λ (v : Words). set v.words v.count x) e ∙ pad_more most_lines 0 l x (omega (arith, count_is)) in
      λ k. record { count = more k; words = all k }
