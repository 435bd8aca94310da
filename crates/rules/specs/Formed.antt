-- Request 3, the rules that a text can say, told by the rule alone.
use Rattle.std.specs.Prelude.{ℕ, ◌^◌, ◌≤◌, ◌<◌, T, length}
use Rattle.theory.specs.Query.{◌∈◌}
use Rattle.text.specs.Numeral.{most_digits}
use Rattle.rules.specs.Rule.{Name, Arg, variable, number, Atom, Rule}
use Rattle.rules.specs.Text.{upper, lower, is_name}

-- a number that a numeral can say
abbrev pub Sayable : ℕ → Type 0
Sayable n = n < 10 ^ most_digits

-- "variables a lower-case letter and up to three digits, constants numerals"
abbrev pub ArgFormed : Arg → Type 0
ArgFormed (variable x) = T (is_name lower x)
ArgFormed (number c) = Sayable c

pub record AtomFormed (a : Atom) : Type 0 where
  -- "Tables are `T` and a numeral"
  pub table : Sayable a.table
  -- "A body atom without terms … meets 1"
  pub terms : 1 ≤ length a.args
  pub args : (t : Arg) → t ∈ a.args → ArgFormed t

pub record Formed (r : Rule) : Type 0 where
  -- "The head name is an upper-case letter and up to three digits"
  pub name : T (is_name upper r.name)
  -- "a constant in the head, meets 1"; a head may have no variable, and any number of them
  pub head : (x : Name) → x ∈ r.head → T (is_name lower x)
  -- a body of one atom or more
  pub nonempty : 1 ≤ length r.body
  pub body : (a : Atom) → a ∈ r.body → AtomFormed a
