-- Request 3, `Q1(x, y) :- T1(x, y, z), T2(x, 7)`: what a rule says. Its head has a name and names variables; its body is atoms.
use Rattle.std.specs.Prelude.{List, ℕ}

-- "Names are the same when their bytes are": a name is its bytes
abbrev pub Name : Type 0
Name = List ℕ

-- what stands in an atom: "variables a lower-case letter and up to three digits, constants numerals"
pub data Arg : Type 0 where
  variable : Name → Arg
  number : ℕ → Arg

-- "Tables are `T` and a numeral"
pub record Atom : Type 0 where
  pub table : ℕ
  pub args : List Arg

-- "The head name", which plays no part in what the rule means; the variables of the head; the atoms of the body
pub record Rule : Type 0 where
  pub name : Name
  pub head : List Name
  pub body : List Atom
