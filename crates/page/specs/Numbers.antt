-- "view n at bit n − 1": the views of a word by their numbers, as they are printed.
use Rattle.std.specs.Prelude.{◌≡◌, List, [], ◌∷◌, ◌++◌, ℕ, ◌≤◌, take}
use Rattle.words.specs.Bits.{is_set}
use Rattle.text.specs.Lines.{space}
use Rattle.text.specs.Print.{decimal}
use Rattle.model.specs.Limits.{most_views}
use Rattle.policy_text.specs.Abstract.{views_in}
use Rattle.page.specs.declared.views.ViewNumbers.{ViewNumbers}

-- the views of a word, ascending
unfoldable pub views_of_word : ℕ → List ℕ
unfolding views_in
views_of_word word = views_in most_views (is_set word)

-- numbers, each behind a space
unfoldable pub spaced_numbers : List ℕ → List ℕ
unfolding decimal
spaced_numbers [] = []
spaced_numbers (n ∷ ns) = space ∷ decimal n ++ spaced_numbers ns

-- as the code holds them
pub record HoldsViews (word : ℕ) (v : ViewNumbers) : Type 0 where
  pub few : v.count ≤ most_views
  pub are : take v.count v.numbers ≡ views_of_word word
