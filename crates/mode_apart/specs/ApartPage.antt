-- The mode `apart`: request 1, "Two archives behind a no". The operation's contract is a relation, and so is the page: the values are the
-- desk's choice, and every page is right whose rows tell the query apart.
use Rattle.std.specs.Prelude.{◌≡◌, List, [], ◌∷◌, ◌++◌, ℕ, ◌-◌, ◌≤◌, length}
use Rattle.theory.specs.Query.{Query}
use Rattle.theory.specs.Archive.{Row}
use Rattle.theory.specs.Apart.{TellsApart}
use Rattle.text.specs.Lines.{newline}
use Rattle.text.specs.Names.{bytes}
use Rattle.text.specs.Print.{decimal}
use Rattle.policy_text.specs.Declared.{Declared, Grants}
use Rattle.policy_text.specs.Text.{Loading, refused, accepted, load}
use Rattle.apart.specs.Archives.{Owed, refusal, settlement, archives, owed, most_rows, most_cells}
use Rattle.page.specs.Numbers.{spaced_numbers}
use Rattle.page.specs.Refusal.{policy_refused, query_refused}

-- ---- what is printed

-- "the table, then eight values, unused ones 0": of these the row's own, as many as the table has columns
unfoldable pub row_line : List ℕ → Row → List ℕ
unfolding spaced_numbers
row_line said x = said ++ spaced_numbers (x.table ∷ x.columns) ++ newline ∷ []

-- the rows of both archives: "The second lacks exactly one row of the first"
unfoldable pub row_lines : List Row → List ℕ
unfolding row_line bytes
row_lines [] = []
row_lines (x ∷ xs) = row_line (bytes "row") x ++ row_lines xs

-- "the reply carries the number of rows", and "The odd row comes first"
unfoldable pub apart_lines : Row → List Row → List ℕ
unfolding row_line row_lines decimal bytes
apart_lines odd others =
    bytes "apart " ++ decimal (length (odd ∷ others)) ++ newline ∷ row_line (bytes "odd") odd ++ row_lines others

-- "A partition that settles the query gives the reply `settled`"
unfoldable pub settled_line : List ℕ
unfolding bytes
settled_line = bytes "settled" ++ newline ∷ []

-- ---- which page it is

-- "two small archives that agree on every view of the partition and on which the query's answers differ", "at most 40 rows are given"
pub record ArchivesPage (d : Declared) (i : ℕ) (Q : Query) (page : List ℕ) : Type 0 where
  pub odd : Row
  pub others : List Row
  pub apart : TellsApart d.widths (Grants d i) Q odd others
  pub few : length (odd ∷ others) ≤ most_rows
  pub is : page ≡ apart_lines odd others

-- the page of what is owed, for the partition at place i
abbrev pub PageOf : Declared → ℕ → List ℕ → List ℕ → Owed → Type 0
PageOf d i query page (refusal number line) = page ≡ query_refused query number line
PageOf d i query page settlement = page ≡ settled_line
PageOf d i query page (archives Q) = ArchivesPage d i Q page

-- for partition n, counted from 1; the mode has room for 360 numbers
abbrev pub ApartUnder : Declared → ℕ → List ℕ → List ℕ → Type 0
ApartUnder d n query page = PageOf d (n - 1) query page (owed d n query most_cells)

abbrev pub ApartLoaded : List ℕ → ℕ → List ℕ → List ℕ → Loading → Type 0
ApartLoaded policy n query page (refused number line) = page ≡ policy_refused policy number line
ApartLoaded policy n query page (accepted d) = ApartUnder d n query page

-- the page for the bytes of a policy, a partition's number and the bytes of a query
abbrev pub ApartPage : List ℕ → ℕ → List ℕ → List ℕ → Type 0
ApartPage policy n query page = ApartLoaded policy n query page (load policy)
