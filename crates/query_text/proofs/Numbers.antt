-- A query text is turned back by one of the listed numbers.
use mathlib.Core.Path.{◌≡◌, refl, subst}
use mathlib.Core.List.Memᴰ
use mathlib.Core.List.{List, [], ◌∷◌, ◌++◌}
use mathlib.Core.Option.{Option, none, some}
use Prim.Native.Nat.{ℕ, zero, suc}
use lib.Dec.{ltb}
use lib.ListN.{length}
use Rattle.theory.specs.Query.{Line, ◌∈◌}
use Rattle.theory.specs.Executable.Test.{all, any}
use Rattle.words.proofs.Answers.{either}
use Rattle.text.specs.Lines.{lines, same_bytes}
use Rattle.text.specs.Names.{table_terms}
use Rattle.model.specs.Fields.{query_line}
use Rattle.model.proofs.FirstFault.{found_in, first_fault_lem, a_fault}
use Rattle.query_text.specs.Text.{Reading, refused, accepted, most_query_bytes, query_numbers, line_checks, fault, query_ends, judged, step, read_from, read_lines, read}

-- a reading whose number, if it has one, is on the list
abbrev OnList : Reading → Type 0
OnList (refused n k) = n ∈ query_numbers
OnList (accepted Q) = Unit {0}

malformed : 1 ∈ query_numbers
malformed = Memᴰ.head refl

-- the numbers of a line's checks are on the list, by computing
fault_on_list : (widths : List ℕ) (earlier : List Line) (A : Line) → fault widths earlier A ∈ 0 ∷ query_numbers
unfolding fault all any
fault_on_list widths earlier A = first_fault_lem query_numbers (line_checks widths earlier A) tt

ends_on_list : (earlier : List Line) (k : ℕ) (tail : List ℕ) → OnList (query_ends earlier k tail)
unfolding query_ends
ends_on_list earlier k (b ∷ tail) = malformed
ends_on_list [] k [] = malformed
ends_on_list (A ∷ earlier) k [] = tt

step_on_list : (o : Option Line) (k : ℕ) (fault : Line → ℕ) (next : Line → Reading)
    → ((A : Line) → fault A ∈ 0 ∷ query_numbers) → ((A : Line) → OnList (next A)) → OnList (step o k fault next)
unfolding step judged
step_on_list none k fault next f rest = malformed
step_on_list (some A) k fault next f rest = by_fault (fault A) (f A)
  where
    by_fault : (n : ℕ) → n ∈ 0 ∷ query_numbers → OnList (judged n k (next A))
    by_fault zero i = rest A
    by_fault (suc n) i = a_fault query_numbers n i

from_on_list : (widths : List ℕ) (earlier : List Line) (k : ℕ) (ls : List (List ℕ)) (tail : List ℕ)
    → OnList (read_from widths earlier k ls tail)
unfolding read_from
from_on_list widths earlier k [] tail = ends_on_list earlier k tail
from_on_list widths earlier k (l ∷ ls) tail =
    step_on_list (query_line l) k (fault widths earlier) _ (fault_on_list widths earlier)
    (λ A. from_on_list widths (earlier ++ A ∷ []) (suc k) ls tail)

lines_on_list : (widths : List ℕ) (ls : List (List ℕ)) (tail : List ℕ) → OnList (read_lines widths ls tail)
unfolding read_lines
lines_on_list widths [] tail = malformed
lines_on_list widths (l ∷ ls) tail = either OnList (same_bytes l table_terms) (from_on_list widths [] 2 ls tail) malformed

pub read_refuses : (widths text : List ℕ) (n k : ℕ) → read widths text ≡ refused n k → n ∈ query_numbers
unfolding read any
read_refuses widths text n k e =
    subst OnList e
    (either OnList (ltb most_query_bytes (length text)) (found_in query_numbers 7 tt)
    (lines_on_list widths (lines text).ended (lines text).rest))
