-- The table of the search: for each set of labels what the lightest list weighs that hits it.
use Rattle.std.specs.Prelude.{◌≡◌, List, [], ◌∷◌, ℕ, ◌+◌, ◌*◌, ◌^◌, ◌≤◌, ◌<◌, length, get_or}
use Rattle.std.specs.Int.Bits.{bit_and, bit_xor}
use Rattle.words.specs.Bits.{bit}
use Rattle.model.specs.Limits.{most_views, most_lines}
use Rattle.hitting.specs.Best.{Numbered, of_view, Hits}

-- A view weighs this and its cost: more than the costs of every list that is looked for, so that weights compare as lengths do and then
-- as costs.
abbrev pub view_weight : ℕ
view_weight = 2 ^ 32

abbrev pub most_cost : ℕ
most_cost = 2 ^ 20

-- more than any such list weighs
abbrev pub too_heavy : ℕ
too_heavy = 2 ^ 48

-- the sets of up to eight labels
abbrev pub sets : ℕ
sets = 2 ^ most_lines

-- what is searched: the labels that each view hits, label j at bit j, and what each view costs; each of the first k labels is hit
pub record Searched (hits costs : List ℕ) (k : ℕ) : Type 0 where
  pub hits_long : length hits ≡ most_views
  pub costs_long : length costs ≡ most_views
  pub cheap : (v : ℕ) → of_view costs v ≤ most_cost
  pub few : k ≤ most_lines
  pub hittable : (j : ℕ) → j < k → (v : ℕ) × (1 ≤ v) × (v ≤ most_views) × (bit (of_view hits v) j ≡ 1)

-- a set of some of these labels
abbrev pub SomeSet : (hits costs : List ℕ) → ℕ → Type 0
SomeSet hits costs m = (k : ℕ) × Searched hits costs k × (m < 2 ^ k)

-- the labels of m that view v leaves
abbrev pub left : List ℕ → ℕ → ℕ → ℕ
left hits m v = bit_xor m (bit_and m (of_view hits v))

-- what a list weighs
unfoldable pub weight : List ℕ → List ℕ → ℕ
weight costs [] = 0
weight costs (v ∷ M) = view_weight + of_view costs v + weight costs M

-- some list of views weighs w and hits m, and none that is lighter does
pub record Lightest (hits costs : List ℕ) (m w : ℕ) : Type 0 where
  pub list : List ℕ
  pub numbered : Numbered list
  pub hits_all : Hits hits m list
  pub weighs : weight costs list ≡ w
  pub least : (M : List ℕ) → Numbered M → Hits hits m M → w ≤ weight costs M

-- what a list for m weighs that begins with view v and goes on with the lightest for what is left, by the table
abbrev pub weight_with : (hits costs table : List ℕ) → ℕ → ℕ → ℕ
weight_with hits costs table m v = view_weight + of_view costs v + get_or table (left hits m v) 0

-- what it takes to weigh: a set of at most eight labels, a view's place, a table without an entry past its limit
pub record Weighed (hits costs table : List ℕ) (m v : ℕ) : Type 0 where
  pub hits_long : length hits ≡ most_views
  pub costs_long : length costs ≡ most_views
  pub table_long : length table ≡ sets
  pub few : m < sets
  pub inside : v < most_views
  pub cheap : get_or costs v 0 ≤ most_cost
  pub light : (x : ℕ) → get_or table x 0 ≤ too_heavy

-- the table is filled for the sets below n, and no list stands there for the others
pub record Filled (hits costs table : List ℕ) (n : ℕ) : Type 0 where
  pub long : length table ≡ sets
  pub light : (m : ℕ) → get_or table m 0 ≤ too_heavy
  pub done : (m : ℕ) → m < n → Lightest hits costs m (get_or table m 0)
  pub bound : (m : ℕ) → m < n → get_or table m 0 ≤ m * (view_weight + most_cost)
  pub unfilled : (m : ℕ) → n ≤ m → m < sets → get_or table m 0 ≡ too_heavy

-- view v is the first of the lightest lists' first views: by it the table is made, and by no view before it
pub record FirstView (hits costs table : List ℕ) (m v : ℕ) : Type 0 where
  pub numbered : (1 ≤ v) × (v ≤ most_views)
  pub leads : weight_with hits costs table m v ≡ get_or table m 0
  pub none : (u : ℕ) → 1 ≤ u → u < v → weight_with hits costs table m u ≡ get_or table m 0 → ⊥

-- the table is filled for the sets of the first labels up to m at least
pub record FilledTo (hits costs table : List ℕ) (m : ℕ) : Type 0 where
  pub labels : ℕ
  pub end : ℕ
  pub searched : Searched hits costs labels
  pub below : m < end
  pub within : end ≤ 2 ^ labels
  pub filled : Filled hits costs table end
