-- A policy text is turned back by one of the listed numbers.
use mathlib.Core.Path.{◌≡◌, refl, subst}
use mathlib.Core.Bool.{Bool, true, false, ◌&&◌}
use mathlib.Core.List.Memᴰ
use mathlib.Core.List.{List, [], ◌∷◌}
use mathlib.Core.Option.{Option, none, some}
use Prim.Native.Nat.{ℕ, zero, suc}
use lib.Dec.{ltb}
use lib.ListN.{length}
use Rattle.theory.specs.Query.{◌∈◌}
use Rattle.theory.specs.Executable.Test.{all, any}
use Rattle.words.proofs.Answers.{either}
use Rattle.text.specs.Lines.{lines, same_bytes}
use Rattle.text.specs.Names.{table_columns}
use Rattle.model.specs.Fields.{Numbered, table_line, view_line, partition_line}
use Rattle.model.proofs.FirstFault.{found_in, first_fault_lem, a_fault}
use Rattle.policy_text.specs.Declared.{Declared}
use Rattle.policy_text.specs.Text.{nothing, Loading, refused, accepted, most_policy_bytes, policy_numbers, table_checks, table_fault, view_checks, view_fault, partition_checks, partition_fault, Entered, faulty, entered, unless, entry, Block, tables, views, partitions, enter, is_next, next_block, policy_ends, go_on, load_from, load_lines, load}

-- a loading, and a line entered, whose number, if it has one, is on the list
abbrev OnList : Loading → Type 0
OnList (refused n k) = n ∈ policy_numbers
OnList (accepted d) = Unit {0}

abbrev EnteredOnList : Entered → Type 0
EnteredOnList (faulty n) = n ∈ policy_numbers
EnteredOnList (entered d) = Unit {0}

malformed : 1 ∈ policy_numbers
malformed = Memᴰ.head refl

-- ---- one line

entry_on_list : {X : Type 0} (o : Option (Numbered X)) (fault : Numbered X → ℕ) (add : X → Declared)
    → ((e : Numbered X) → fault e ∈ 0 ∷ policy_numbers) → EnteredOnList (entry o fault add)
unfolding entry unless
entry_on_list none fault add f = malformed
entry_on_list (some e) fault add f = by_fault (fault e) (f e)
  where
    by_fault : (n : ℕ) → n ∈ 0 ∷ policy_numbers → EnteredOnList (unless n (add e.value))
    by_fault zero i = tt
    by_fault (suc n) i = a_fault policy_numbers n i

-- the numbers of a line's checks are on the list, by computing
enter_on_list : (b : Block) (d : Declared) (l : List ℕ) → EnteredOnList (enter b d l)
unfolding enter table_fault view_fault partition_fault all any
enter_on_list tables d l = entry_on_list (table_line l) (table_fault d) _ (λ e. first_fault_lem policy_numbers (table_checks d e) tt)
enter_on_list views d l = entry_on_list (view_line l) (view_fault d) _ (λ e. first_fault_lem policy_numbers (view_checks d e) tt)
enter_on_list partitions d l =
    entry_on_list (partition_line l) (partition_fault d) _ (λ e. first_fault_lem policy_numbers (partition_checks d e) tt)

-- ---- the lines

ends_on_list : (b : Block) (started : Bool) (d : Declared) (k : ℕ) (tail : List ℕ) → OnList (policy_ends b started d k tail)
unfolding policy_ends
ends_on_list b started d k (x ∷ tail) = malformed
ends_on_list tables started d k [] = malformed
ends_on_list views started d k [] = malformed
ends_on_list partitions true d k [] = tt
ends_on_list partitions false d k [] = malformed

next_on_list : (o : Entered) (k : ℕ) (next : Declared → Loading) → EnteredOnList o → ((d : Declared) → OnList (next d))
    → OnList (go_on o k next)
unfolding go_on
next_on_list (faulty n) k next i rest = i
next_on_list (entered d) k next i rest = rest d

from_on_list : (b : Block) (started : Bool) (d : Declared) (k : ℕ) (ls : List (List ℕ)) (tail : List ℕ)
    → OnList (load_from b started d k ls tail)
unfolding load_from
from_on_list b started d k [] tail = ends_on_list b started d k tail
from_on_list b started d k (l ∷ ls) tail =
    either OnList (started && is_next b l) (from_on_list (next_block b) false d (suc k) ls tail)
    (next_on_list (enter b d l) k _ (enter_on_list b d l) (λ e. from_on_list b true e (suc k) ls tail))

lines_on_list : (ls : List (List ℕ)) (tail : List ℕ) → OnList (load_lines ls tail)
unfolding load_lines
lines_on_list [] tail = malformed
lines_on_list (l ∷ ls) tail = either OnList (same_bytes l table_columns) (from_on_list tables false nothing 2 ls tail) malformed

pub load_refuses : (text : List ℕ) (n k : ℕ) → load text ≡ refused n k → n ∈ policy_numbers
unfolding load any
load_refuses text n k e =
    subst OnList e
    (either OnList (ltb most_policy_bytes (length text)) (found_in policy_numbers 7 tt) (lines_on_list (lines text).ended (lines text).rest))
