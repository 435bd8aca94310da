-- The names of a body as keys, each at its first place.
use Rattle.std.specs.Prelude.{◌≡◌, Bool, cond, List, [], ◌∷◌, ◌++◌, ℕ, ◌+◌, ◌*◌, ◌≤◌, eqb, take}
use Rattle.theory.specs.Executable.Test.{any}
use Rattle.model.specs.Limits.{most_lines, most_columns}
use Rattle.model.specs.declared.Term.{Term}
use Rattle.model.specs.declared.Line.{Line}
use Rattle.model.specs.declared.Query.{Query}
use Rattle.numbering.specs.declared.names.Names.{Names}

-- as many names as there are places in a query
abbrev pub most_names : ℕ
most_names = most_lines * most_columns

-- the keys that the value holds
abbrev pub held : Names → List ℕ
held n = take n.count n.keys

-- the key stands among these
unfoldable pub is_key : ℕ → List ℕ → Bool
unfolding any
is_key k seen = any (eqb k) seen

-- a key behind those seen, where it is new
unfoldable pub entered : List ℕ → ℕ → List ℕ
unfolding is_key
entered seen k = cond (is_key k seen) seen (seen ++ k ∷ [])

pub record Entered (was : Names) (k : ℕ) (is : Names) : Type 0 where
  pub keys : held is ≡ entered (held was) k
  pub most : is.count ≤ was.count + 1

-- the keys of the variables among these terms, behind those seen
unfoldable pub keys_in : List ℕ → List Term → List ℕ
unfolding entered
keys_in seen [] = seen
keys_in seen (t ∷ ts) = keys_in (cond (eqb t.mark 3) (entered seen t.number) seen) ts

pub record LineNamed (l : Line) (was is : Names) : Type 0 where
  pub keys : held is ≡ keys_in (held was) l.terms
  pub most : is.count ≤ was.count + most_columns

-- and of these lines
unfoldable pub keys_of : List ℕ → List Line → List ℕ
unfolding keys_in
keys_of seen [] = seen
keys_of seen (l ∷ ls) = keys_of (keys_in seen l.terms) ls

pub record BodyNamed (q : Query) (is : Names) : Type 0 where
  pub keys : held is ≡ keys_of [] (take q.count q.lines)
  pub most : is.count ≤ most_names
