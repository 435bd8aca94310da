-- Numbers written one behind the other, and the numbers of the views of a word gathered.
use mathlib.Core.Path.{◌≡◌, sym, ap, ◌∙◌}
use mathlib.Core.Bool.{true, false}
use mathlib.Core.List.{List, [], ◌∷◌, ◌++◌, append_assoc, append-nil}
use Prim.Native.Nat.{ℕ, suc, ◌+◌, ◌≤◌, ◌<◌}
use native.Mathlib.Numerals.{add-one}
use native.Mathlib.Omega.{arith}
use lib.ListN.{length, take, get_or, set, length-set}
use lib.Seq.{take-suc, take-suc-set}
use Rattle.words.specs.Bits.{is_set}
use Rattle.text.specs.Lines.{space}
use Rattle.text.specs.Print.{decimal}
use Rattle.model.specs.Limits.{most_views}
use Rattle.policy_text.specs.Abstract.{views_in}
use Rattle.writing.specs.Wrote.{Wrote}
use Rattle.writing.proofs.Wrote.{wrote_as, wrote_more}
use Rattle.page.specs.Numbers.{spaced_numbers, views_of_word}

-- ---- numbers, each behind a space

spaced_last : (l : List ℕ) (n : ℕ) → spaced_numbers l ++ space ∷ decimal n ≡ spaced_numbers (l ++ n ∷ [])
unfolding spaced_numbers
spaced_last [] n = sym (append-nil (space ∷ decimal n))
spaced_last (x ∷ l) n =
    ap (λ (m : List ℕ). space ∷ m)
    (append_assoc (decimal x) (spaced_numbers l) (space ∷ decimal n) ∙ ap (λ (m : List ℕ). decimal x ++ m) (spaced_last l n))

pub wrote_number : {a b c : List ℕ} {at j k n : ℕ} (ns : List ℕ) (i : ℕ) → Wrote a at (spaced_numbers (take i ns)) b j
    → Wrote b j (space ∷ decimal n) c k → n ≡ get_or ns i 0 → i < length ns → Wrote a at (spaced_numbers (take (i + 1) ns)) c k
wrote_number {n = n} ns i v w e h =
    wrote_as
    (ap (λ (m : ℕ). spaced_numbers (take i ns) ++ space ∷ decimal m) e ∙ spaced_last (take i ns) (get_or ns i 0)
    ∙ ap spaced_numbers (sym (take-suc ns i 0 h) ∙ ap (λ (m : ℕ). take m ns) (sym (add-one i))))
    (wrote_more v w)

-- ---- the views of a word

-- those of the bits before k
pub record FirstViews (word : ℕ) (numbers : List ℕ) (count k : ℕ) : Type 0 where
  pub few : count ≤ k
  pub within : k ≤ most_views
  pub long : length numbers ≡ most_views
  pub are : take count numbers ≡ views_in k (is_set word)

module _ {word : ℕ} {numbers : List ℕ} {count k : ℕ} (f : FirstViews word numbers count k) (h : k < most_views) where
  pub view_more : is_set word k ≡ true → FirstViews word (set numbers count (k + 1)) (count + 1) (k + 1)
  unfolding views_in
  view_more e =
      record {
        few = omega (arith, f.few);
        within = omega arith;
        long = length-set numbers count (k + 1) ∙ f.long;
        are =
            rw (add-one count, add-one k, e)
            (take-suc-set numbers count (suc k) (omega (arith, f.few, f.long)) ∙ ap (λ (l : List ℕ). l ++ suc k ∷ []) f.are);
      }

  pub view_not : is_set word k ≡ false → FirstViews word numbers count (k + 1)
  unfolding views_in
  view_not e =
      record {
        few = omega (arith, f.few);
        within = omega arith;
        long = f.long;
        are = rw (add-one k, e) (f.are ∙ sym (append-nil (views_in k (is_set word))));
      }

pub views_all : {word : ℕ} {numbers : List ℕ} {count k : ℕ} → FirstViews word numbers count k → most_views ≤ k
    → take count numbers ≡ views_of_word word
unfolding views_of_word
views_all {word} {k = k} f h =
    let e : k ≡ most_views = omega (arith, f.within) in f.are ∙ ap (λ (n : ℕ). views_in n (is_set word)) e
