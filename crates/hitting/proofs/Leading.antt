-- The first view of a lightest list, found by the table, and the list that is so chosen.
use mathlib.Core.Path.{◌≡◌, sym, ap, subst}
use mathlib.Core.Logic.{◌≢◌}
use mathlib.Core.List.{List, [], ◌∷◌, ◌++◌, append_assoc, append-nil}
use Prim.Native.Nat.{ℕ, ◌+◌, ◌≤◌, ◌<◌}
use native.Mathlib.Decide.{ℕ_discrete}
use native.Mathlib.Omega.{arith}
use lib.Count.{count_trailing_zeros}
use lib.ListN.{length, get_or, length-append}
use Rattle.words.specs.Bits.{bit, ones_below}
use Rattle.words.specs.Sets.{Without}
use Rattle.words.proofs.Bits.{bit_within}
use Rattle.words.proofs.Counts.{ones_at_most, ones_pos}
use Rattle.words.proofs.ClearBits.{without_xor}
use Rattle.words.proofs.WithoutBits.{without_once, without_less, ones_less}
use Rattle.words.proofs.Lowest.{trailing_least}
use Rattle.theory.proofs.Lists.{place}
use Rattle.model.specs.Limits.{most_views, most_lines}
use Rattle.word_list.specs.Value.{words_value}
use Rattle.word_list.specs.declared.Words.{Words}
use Rattle.word_list.proofs.Value.{count_is}
use Rattle.hitting.specs.Best.{of_view, Meets, HoldsBest}
use Rattle.hitting.specs.Table.{SomeSet, left, Lightest, weight_with, FirstView, FilledTo}
use Rattle.hitting.proofs.Lightest.{meets?, left_less, left_same, weight_without, lightest_once}
use Rattle.hitting.proofs.LeastWeight.{at_view}
use Rattle.hitting.proofs.Chosen.{Chosen, nothing, next, drop_one}
use Rattle.hitting.proofs.Compared.{best_of}

module _ (hits costs : List ℕ) where
  left_most : (m v : ℕ) → left hits m v ≤ m
  left_most m v = go (meets? hits costs m v)
    where
      go : Dec (Meets hits m v) → left hits m v ≤ m
      go (yes y) = omega (arith, left_less hits costs m v y)
      go (no n) = omega (arith, left_same hits costs m v n)

-- ---- the search for the first view

module _ (hits costs table : List ℕ) (m : ℕ) where
  -- a lightest list for the set begins with view v, by the table
  abbrev pub Leads : ℕ → Type 0
  Leads v = weight_with hits costs table m v ≡ get_or table m 0

  -- no view up to v leads, and a later one does
  pub record Unled (v : ℕ) : Type 0 where
    pub none : (u : ℕ) → 1 ≤ u → u ≤ v → Leads u → ⊥
    pub later : (u : ℕ) × (v < u) × (u ≤ most_views) × Leads u

  pub unled_more : {v : ℕ} → Unled v → (Leads (v + 1) → ⊥) → Unled (v + 1)
  unled_more {v} l n =
      let (u, above, to, leads) = l.later in
      let other : u ≢ v + 1 = λ e. n (subst Leads e leads) in
      record {
        none = λ x from up. at x up (l.none x from) (ℕ_discrete x (v + 1));
        later = (u, omega (arith, above, other), to, leads);
      }
    where
      at : (x : ℕ) → x ≤ v + 1 → (x ≤ v → Leads x → ⊥) → Dec (x ≡ v + 1) → Leads x → ⊥
      at x up before (yes e) leads = n (subst Leads e leads)
      at x up before (no ne) leads = before (omega (arith, up, ne)) leads

  pub unled_first : {v : ℕ} → Unled v → Leads (v + 1) → FirstView hits costs table m (v + 1)
  unled_first {v} l leads =
      let (u, above, to, other) = l.later in
      record {
        numbered = (omega arith, omega (arith, above, to));
        leads = leads;
        none = λ x from below. l.none x from (omega (arith, below));
      }

module _ (hits costs table : List ℕ) {m : ℕ} (t : FilledTo hits costs table m) where
  -- the table has what each view leaves
  entry : (v : ℕ) → Lightest hits costs (left hits m v) (get_or table (left hits m v) 0)
  entry v = t.filled.done (left hits m v) (omega (arith, left_most hits costs m v, t.below))

  pub some_set : SomeSet hits costs m
  some_set = (t.labels, t.searched, omega (arith, t.below, t.within))

  -- a view of the lightest list that hits a label of the set leads
  pub unled_none : 0 < m → Unled hits costs table m 0
  unled_none some =
      let k = t.labels in
      let low = trailing_least k m some (omega (arith, t.below, t.within)) in
      let F = t.filled.done m t.below in
      let (v, a, y) = F.hits_all (count_trailing_zeros k m) low.set in
      let (i, e) = place a in
      let (from, to) = F.numbered v a in
      let G = drop_one hits costs m _ v i F.list F F.numbered F.hits_all F.weighs e in
      let same = lightest_once hits costs (left hits m v) (entry v) G in
      let leads : Leads hits costs table m v = omega (arith, same, weight_without hits costs v i F.list e, F.weighs) in
      record { none = λ u one up. absurd (omega (arith, one, up)); later = (v, from, to, leads) }

  -- ---- the list

  -- a label of the set is one of the first eight
  pub few_labels : (j : ℕ) → bit m j ≡ 1 → j < most_lines
  few_labels j x =
      let (k, s, below) = some_set in omega (arith, bit_within k j below x, s.few)

  -- it hits a label of the set: it would add its weight for nothing
  pub first_meets : {v : ℕ} → FirstView hits costs table m v → Meets hits m v
  first_meets {v} f = go (meets? hits costs m v)
    where
      go : Dec (Meets hits m v) → Meets hits m v
      go (yes y) = y
      go (no n) =
          absurd (omega (arith, f.leads, ap (λ (x : ℕ). get_or table x 0) (left_same hits costs m v n)))

  -- the first view, and what is chosen for what it leaves
  pub first_chosen : {v : ℕ} {l : List ℕ} → FirstView hits costs table m v → Chosen hits costs (left hits m v) l
      → Chosen hits costs m (v ∷ l)
  first_chosen {v} f c =
      next v (get_or table (left hits m v) 0) f.numbered (first_meets f)
      (subst (Lightest hits costs m) (sym f.leads) (t.filled.done m t.below)) (entry v)
      (λ u x from below light same.
      let is = lightest_once hits costs (left hits m u) (entry u) light in
      f.none u from below (omega (arith, same, is, f.leads)))
      c

-- the words hold views that are chosen, and for what is left there is room
pub record ChosenTo (hits costs : List ℕ) (m : ℕ) (r : Words) (rest : ℕ) : Type 0 where
  pub list : List ℕ
  pub is : r ≡ words_value list
  pub goes_on : (k : List ℕ) → Chosen hits costs rest k → Chosen hits costs m (list ++ k)
  pub room : length list + ones_below most_lines rest ≤ most_lines
  pub within : rest ≤ m

module _ (hits costs table : List ℕ) {m : ℕ} where
  pub chosen_none : {r : Words} → r ≡ words_value [] → ChosenTo hits costs m r m
  chosen_none e = record {
    list = [];
    is = e;
    goes_on = λ k c. c;
    room = omega (arith, ones_at_most most_lines m);
    within = omega arith;
  }

  -- the table does for each lesser set
  pub filled_part : FilledTo hits costs table m → {rest : ℕ} → rest ≤ m → FilledTo hits costs table rest
  filled_part t h = record {
    labels = t.labels;
    end = t.end;
    searched = t.searched;
    below = omega (arith, h, t.below);
    within = t.within;
    filled = t.filled;
  }

  -- a label is left, and room for a view
  pub room_left : {r : Words} {rest : ℕ} → FilledTo hits costs table m → ChosenTo hits costs m r rest → 0 < rest → r.count < most_lines
  room_left {r} {rest} t c some =
      let (k, s, below) = some_set hits costs table (filled_part t c.within) in
      let low = trailing_least k rest some below in
      let one = (ones_pos most_lines rest).1 (count_trailing_zeros k rest, omega (arith, low.below, s.few), low.set) in
      omega (arith, one, c.room, count_is r c.list c.is)

  -- one view more: it hits a label at least, so that one fewer is left
  pub chosen_more : {r more : Words} {rest : ℕ} (after v : ℕ) → FilledTo hits costs table m → ChosenTo hits costs m r rest
      → FirstView hits costs table rest (v + 1) → Without rest (get_or hits v 0) after
      → ((l : List ℕ) → r ≡ words_value l → more ≡ words_value (l ++ (v + 1) ∷ [])) → ChosenTo hits costs m more after × (after < rest)
  chosen_more {rest = rest} after v t c f w pushed =
      let part = filled_part t c.within in
      let leaves = subst (λ (x : ℕ). Without rest x after) (sym (at_view hits v)) w in
      let (j, x, y) = first_meets hits costs table part f in
      let is : after ≡ left hits rest (v + 1) = without_once leaves (without_xor rest (of_view hits (v + 1))) in
      let small = few_labels hits costs table part j x in
      let fewer = ones_less most_lines j leaves small x y in
      let less = without_less j leaves x y in (
        record {
          list = c.list ++ (v + 1) ∷ [];
          is = pushed c.list c.is;
          goes_on = λ k n.
              subst (Chosen hits costs m) (sym (append_assoc c.list ((v + 1) ∷ []) k))
              (c.goes_on ((v + 1) ∷ k) (first_chosen hits costs table part f (subst (λ (z : ℕ). Chosen hits costs z k) is n)));
          room = simp length-append (omega (arith, fewer, c.room));
          within = omega (arith, less, c.within);
        },
        less,
      )

  -- when nothing is left the views are the best
  pub chosen_all : {r : Words} → FilledTo hits costs table m → ChosenTo hits costs m r 0
      → HoldsBest hits costs m r
  chosen_all t c = (
    c.list,
    c.is,
    omega (arith, c.room),
    best_of hits costs t.labels m t.searched (omega (arith, t.below, t.within))
        (subst (Chosen hits costs m) (append-nil c.list) (c.goes_on [] nothing)) (get_or table m 0) (t.filled.done m t.below)
        (t.filled.bound m t.below),
  )
