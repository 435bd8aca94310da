-- What two candidates have to agree on: the terms that they have in the first columns of the hidden variables that both lines have.
use Rattle.std.specs.Prelude.{◌≡◌, ◌↔◌, ◌⊎◌, List, ℕ, ◌<◌, length, get_or}
use Rattle.theory.specs.Query.{hidden, Query}
use Rattle.words.specs.Bits.{bit}
use Rattle.model.specs.Limits.{most_lines, most_columns}
use Rattle.model.specs.Value.{term_value}
use Rattle.model.specs.Rows.{laid_term}
use Rattle.reduce.specs.Columns.{FirstColumn}
use Rattle.reduce.specs.PairNumbers.{pair_of, line_of, target_of}
use Rattle.reduce.specs.Pairs.{Joined}

-- the bits of a word are lines
abbrev pub LineBits : ℕ → Type 0
LineBits w = (i : ℕ) → bit w i ≡ 1 → i < most_lines

-- w has, as bit t * mostLines + u, each row t of `row` with each row u that has in column q what t has in column p
abbrev pub AgreeWord : (rows : List ℕ) (p q row w : ℕ) → Type 0
AgreeWord rows p q row w =
    (k : ℕ) → (bit w k ≡ 1) ↔ ((bit row (line_of k) ≡ 1) × (laid_term rows (line_of k) p ≡ laid_term rows (target_of k) q))

-- some column of row a has the hidden variable n
abbrev pub HasVariable : (rows : List ℕ) (a n : ℕ) → Type 0
HasVariable rows a n = (p : ℕ) × (p < most_columns) × (laid_term rows a p ≡ term_value (hidden n))

-- rows t and u have one term where rows a and b have the hidden variable n first
abbrev pub Linked : (rows : List ℕ) (n a b t u : ℕ) → Type 0
Linked rows n a b t u =
    (p q : ℕ) → FirstColumn rows a (term_value (hidden n)) p → FirstColumn rows b (term_value (hidden n)) q
    → laid_term rows t p ≡ laid_term rows u q

-- w has, of the rows t of `row` with rows u, those linked by each of the variables `shared`, if rows a and b have these
abbrev pub LinkWord : (rows : List ℕ) (shared a b row w : ℕ) → Type 0
LinkWord rows shared a b row w =
    ((n : ℕ) → bit shared n ≡ 1 → HasVariable rows a n × HasVariable rows b n) → (k : ℕ) → bit row (line_of k) ≡ 1
    → (bit w k ≡ 1) ↔ ((n : ℕ) → bit shared n ≡ 1 → Linked rows n a b (line_of k) (target_of k))

-- for each target t of line a in `row`, the targets of line b that w has beside it are put to those there; other lines' entries stay
pub record LinksPut (w row a b : ℕ) (before after : List ℕ) : Type 0 where
  pub long : length after ≡ length before
  pub others : (p : ℕ) → (line_of p ≡ a → ⊥) → get_or after p 0 ≡ get_or before p 0
  pub links : (t k : ℕ) → bit row t ≡ 1 → (bit (get_or after (pair_of a t) 0) k ≡ 1)
      ↔ ((bit (get_or before (pair_of a t) 0) k ≡ 1) ⊎ ((line_of k ≡ b) × (bit w (pair_of t (target_of k)) ≡ 1)))

-- for each candidate of line a, the candidates of the lines `later` that are compatible with it are put to those there
pub record RowPaired (Q : Query) (m a later : ℕ) (before after : List ℕ) : Type 0 where
  pub others : (p : ℕ) → (line_of p ≡ a → ⊥) → get_or after p 0 ≡ get_or before p 0
  pub pairs : (p b : ℕ) → line_of p ≡ a → bit m p ≡ 1 → bit m b ≡ 1 → (bit (get_or after p 0) b ≡ 1)
      ↔ ((bit (get_or before p 0) b ≡ 1) ⊎ ((bit later (line_of b) ≡ 1) × Joined Q p b))
