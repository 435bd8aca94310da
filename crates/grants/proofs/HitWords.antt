-- Views that hit words: read off the words of the search, and that these may be searched.
use mathlib.Core.Path.{◌≡◌, refl, sym, ap, subst, ◌∙◌}
use mathlib.Core.Logic.{◌↔◌}
use mathlib.Core.List.{List, [], ◌∷◌}
use mathlib.Core.Option.{some, some-injective}
use Prim.Native.Nat.{ℕ, zero, suc, ◌+◌, ◌-◌, ◌^◌, ◌≤◌, ◌<◌}
use native.Mathlib.Nat.{le_refl}
use native.Mathlib.Omega.{arith}
use borrow.Author.Tests.{eqb-true}
use lib.Count.{count_trailing_zeros}
use lib.ListN.{length, get_or, get_elem?, replicate, length-map, length-replicate}
use Rattle.theory.specs.Query.{◌∈◌}
use Rattle.theory.proofs.Lists.{place, at_place, place_below, below_place}
use Rattle.words.specs.Bits.{bit, is_set}
use Rattle.words.specs.TestBits.{up_from}
use Rattle.words.proofs.Answers.{true_holds, holds_true}
use Rattle.words.proofs.Bits.{is_set_lem, bit_within}
use Rattle.words.proofs.ClearBits.{low_bits_set, low_bits_below}
use Rattle.words.proofs.Lowest.{trailing_least}
use Rattle.words.proofs.TestBits.{tests_bit, up_from_length, from_get}
use Rattle.model.specs.Limits.{most_views, most_lines}
use Rattle.hitting.specs.Best.{Numbered, of_view, Meets, Hits, sum}
use Rattle.hitting.specs.Table.{Searched}
use Rattle.grants.specs.Searching.{holding, hits_of, no_costs}

-- each word has the bit of one of the views
abbrev pub HitsWords : List ℕ → List ℕ → Type 0
HitsWords ws ns = (w : ℕ) → w ∈ ws → (n : ℕ) × (n ∈ ns) × (bit w (n - 1) ≡ 1)

-- ---- the words of the search

module _ (ws : List ℕ) where
  of_view_lem : (v : ℕ) → 1 ≤ v → v ≤ most_views → of_view (hits_of ws) v ≡ holding ws (v - 1)
  unfolding hits_of
  of_view_lem v a b = from_get (holding ws) 0 0 most_views (v - 1) (omega arith) ∙ ap (holding ws) (omega arith)

  -- bit j of the word of view v says whether the word at place j has the bit of that view
  holding_bit : (v j : ℕ) → (bit (holding ws v) j ≡ 1) ↔ ((w : ℕ) × (get_elem? ws j ≡ some w) × (bit w v ≡ 1))
  unfolding holding
  holding_bit v j =
      let t = tests_bit (λ w. is_set w v) ws j in (
        λ h. let (w, e, s) = t.0 h in (w, e, eqb-true _ _ (sym (holds_true _ s))),
        λ r. t.1 (r.0, r.1, true_holds (is_set_lem r.0 v r.2)),
      )

  hit_bit : (v j : ℕ) → 1 ≤ v → v ≤ most_views
      → (bit (of_view (hits_of ws) v) j ≡ 1) ↔ ((w : ℕ) × (get_elem? ws j ≡ some w) × (bit w (v - 1) ≡ 1))
  hit_bit v j a b = rw (of_view_lem v a b) (holding_bit (v - 1) j)

-- a place among the first n
low_bit : (n j : ℕ) → bit (2 ^ n - 1) j ≡ 1 → j < n
low_bit n j e = bit_within n j (low_bits_below n n (le_refl n)) e

pub hits_iff : (ws ns : List ℕ) → Numbered ns → Hits (hits_of ws) (2 ^ length ws - 1) ns ↔ HitsWords ws ns
hits_iff ws ns numbered = (
  λ hit w m.
      let (j, at) = place m in
      let (n, i, e) = hit j (low_bits_set (length ws) j (place_below ws j at)) in
      let (from, to) = numbered n i in
      let (u, there, b) = (hit_bit ws n j from to).0 e in
      (n, i, subst (λ (x : ℕ). bit x (n - 1) ≡ 1) (some-injective u w (sym there ∙ at)) b),
  λ hit j e.
      let (w, at) = below_place ws j (low_bit (length ws) j e) in
      let (n, i, b) = hit w (at_place ws j at) in
      let (from, to) = numbered n i in
      (n, i, (hit_bit ws n j from to).1 (w, at, b)),
)

pub hit_word : (ws : List ℕ) (v : ℕ) → 1 ≤ v → v ≤ most_views → Meets (hits_of ws) (2 ^ length ws - 1) v
    → (w : ℕ) × (w ∈ ws) × (bit w (v - 1) ≡ 1)
hit_word ws v from to (j, _, e) =
    let (w, at, b) = (hit_bit ws v j from to).0 e in (w, at_place ws j at, b)

-- ---- words that may be searched

repeated : (n i : ℕ) → ◌≡◌ {A = ℕ} (get_or (replicate n 0) i 0) 0
repeated zero i = refl
repeated (suc n) zero = refl
repeated (suc n) (suc i) = repeated n i

-- no list costs anything
pub sum_nothing : (M : List ℕ) → sum no_costs M ≡ 0
unfolding sum
sum_nothing [] = refl
sum_nothing (v ∷ M) = omega (arith, repeated most_views (v - 1), sum_nothing M)

-- a word that is not 0 has some bit
some_view : (w : ℕ) → 0 < w → w < 2 ^ most_views → (v : ℕ) × (1 ≤ v) × (v ≤ most_views) × (bit w (v - 1) ≡ 1)
some_view w more small =
    let k = count_trailing_zeros most_views w in
    let l = trailing_least most_views w more small in
    let back : k + 1 - 1 ≡ k = omega arith in
    (k + 1, omega arith, omega (arith, l.below), rw back l.set)

pub searched : (ws : List ℕ) → length ws ≤ most_lines → ((w : ℕ) → w ∈ ws → (0 < w) × (w < 2 ^ most_views))
    → Searched (hits_of ws) no_costs (length ws)
unfolding hits_of
searched ws few each = record {
  hits_long = length-map (up_from 0 most_views) (holding ws) ∙ up_from_length 0 most_views;
  costs_long = length-replicate {A = ℕ} most_views 0;
  cheap = λ v. omega (arith, repeated most_views (v - 1));
  few = few;
  hittable = λ j h.
      let (w, at) = below_place ws j h in
      let (more, small) = each w (at_place ws j at) in
      let (v, from, to, b) = some_view w more small in
      (v, from, to, (hit_bit ws v j from to).1 (w, at, b));
}
