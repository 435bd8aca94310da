-- Request 3, "Consultants write rules in the style of document 000": how a rule is written.
use Rattle.std.specs.Prelude.{List, [], ◌∷◌, ◌++◌, map, ℕ}
use Rattle.text.specs.Lines.{newline}
use Rattle.text.specs.Names.{bytes}
use Rattle.text.specs.Print.{decimal}
use Rattle.rules.specs.Rule.{Arg, variable, number, Atom, Rule}

-- "one space after each comma"
unfoldable pub listed : List (List ℕ) → List ℕ
unfolding bytes
listed [] = []
listed (f ∷ []) = f
listed (f ∷ g ∷ gs) = f ++ bytes ", " ++ listed (g ∷ gs)

-- a variable is its name, a constant its numeral
unfoldable pub arg_text : Arg → List ℕ
unfolding decimal
arg_text (variable x) = x
arg_text (number c) = decimal c

-- "Tables are `T` and a numeral"
unfoldable pub atom_text : Atom → List ℕ
unfolding bytes decimal listed arg_text
atom_text a = bytes "T" ++ decimal a.table ++ bytes "(" ++ listed (map arg_text a.args) ++ bytes ")"

-- "one space … on each side of `:-`"; "A rule is one line, ended by byte 10"
unfoldable pub rule_text : Rule → List ℕ
unfolding bytes listed atom_text
rule_text r = r.name ++ bytes "(" ++ listed r.head ++ bytes ") :- " ++ listed (map atom_text r.body) ++ newline ∷ []
