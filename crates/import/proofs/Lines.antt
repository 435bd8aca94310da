-- The lines of a query printed one by one, behind the names line.
use mathlib.Core.Path.{◌≡◌, sym, ap, ◌∙◌}
use mathlib.Core.List.{List, [], ◌∷◌, ◌++◌, map, map-append}
use Prim.Native.Nat.{ℕ, ◌+◌, ◌*◌, ◌≤◌, ◌<◌}
use native.Mathlib.Numerals.{add-one}
use native.Mathlib.Omega.{arith}
use lib.ListN.{length, take, get_or, length-map, length-take}
use lib.Seq.{take-suc, take_all, length-take-le}
use Rattle.theory.specs.Query.{Query, ◌∈◌}
use Rattle.theory.specs.Query.{Line as TheLine}
use Rattle.theory.proofs.Tuples.{get_d_map, get_d_mem}
use Rattle.text.specs.Lines.{newline}
use Rattle.text.specs.Names.{bytes, table_terms}
use Rattle.text.specs.Print.{end_each}
use Rattle.text.proofs.Joined.{ended_parts}
use Rattle.model.specs.Limits.{most_lines, most_columns}
use Rattle.model.specs.Print.{print_query_line}
use Rattle.model.specs.Value.{unused_line, line_value}
use Rattle.model.specs.declared.Line.{Line}
use Rattle.model.specs.declared.Query.{Query as QueryValue}
use Rattle.numbering.specs.Names.{most_names, held, BodyNamed}
use Rattle.numbering.specs.declared.names.Names.{Names}
use Rattle.numbering.specs.Lines.{AllPlaced, numbered_line}
use Rattle.numbering.proofs.Keys.{before_member, all_keyed}
use Rattle.query_text.specs.Print.{query_text}
use Rattle.writing.specs.Wrote.{Wrote}
use Rattle.printing.specs.Printing.{most_line_bytes, LinePut}
use Rattle.import.specs.Translating.{lines_of, NamedLines, QueryPut}

-- the names line and the first k lines
abbrev text_to : Query → ℕ → List ℕ
text_to Q k = end_each (table_terms ∷ map print_query_line (take k Q))

-- how long it may be
abbrev pub most_to : ℕ → ℕ
most_to k = 12 + k * most_line_bytes

-- a line more of the text
one_more : (Q : Query) (k : ℕ) (d : TheLine) → k < length Q
    → text_to Q k ++ (print_query_line (get_or Q k d) ++ newline ∷ []) ≡ text_to Q (k + 1)
unfolding end_each
one_more Q k d h =
    rw (add-one k, take-suc Q k d h, map-append print_query_line (take k Q) (get_or Q k d ∷ []))
    (sym (ended_parts (table_terms ∷ map print_query_line (take k Q)) (print_query_line (get_or Q k d) ∷ [])))

-- a line for the places that no line has
no_line : TheLine
no_line = record { table = 0; columns = [] }

module _ (q : QueryValue) (keys : List ℕ) (shown : ℕ) where
  -- the lines of Q are those of the value with numbers for keys
  abbrev Numbered : Query → Type 0
  Numbered Q =
      (map (numbered_line keys shown) (lines_of q) ≡ map line_value Q)
      × ((A : TheLine) → A ∈ Q → length A.columns ≤ most_columns)

  -- k lines are printed, and the text goes to the place
  pub record Printed (k : ℕ) (out : List ℕ) (at : ℕ) : Type 0 where
    pub most : at ≤ most_to k
    pub bytes : (Q : Query) → Numbered Q → take at out ≡ text_to Q k

  pub none_printed : {was a b : List ℕ} {i j : ℕ} → Wrote was 0 table_terms a i → Wrote a i (newline ∷ []) b j → Printed 0 b j
  unfolding end_each table_terms bytes
  none_printed v w =
      record { most = omega (arith, v.next, w.next); bytes = λ Q n. w.front ∙ ap (λ (l : List ℕ). l ++ newline ∷ []) v.front }

  -- the lines are as many as Q has
  numbered_long : (Q : Query) → Numbered Q → length Q ≡ length (lines_of q)
  numbered_long Q (same, narrow) =
      sym (length-map Q line_value) ∙ ap length (sym same) ∙ length-map (lines_of q) (numbered_line keys shown)

  -- ---- the next line

  module _ {k at r : ℕ} {was is : List ℕ} {l : Line} (d : Line) (p : Printed k was at) (h : k < length (lines_of q))
      (few : r ≤ at + most_line_bytes) (line : l ≡ numbered_line keys shown (get_or (lines_of q) k d)) (put : LinePut l was at is r) where
    pub more_printed : Printed (k + 1) is r
    more_printed = record { most = omega (arith, p.most, few); bytes = λ Q n. go Q n }
      where
        go : (Q : Query) → Numbered Q → take r is ≡ text_to Q (k + 1)
        go Q (same, narrow) =
            let long = numbered_long Q (same, narrow) in
            let A = get_or Q k no_line in
            let inside : k < length Q = omega (arith, h, long) in
            let here : l ≡ line_value A =
            line ∙ sym (get_d_map (numbered_line keys shown) (lines_of q) k d unused_line h)
            ∙ ap (λ (m : List Line). get_or m k unused_line) same ∙ get_d_map line_value Q k no_line unused_line inside in
            let w = put A here (narrow A (get_d_mem Q k no_line inside)) in
            w.front ∙ ap (λ (m : List ℕ). m ++ (print_query_line A ++ newline ∷ [])) (p.bytes Q (same, narrow))
            ∙ one_more Q k no_line inside

  pub all_printed : {k : ℕ} {out : List ℕ} {at : ℕ} → Printed k out at → length (lines_of q) ≤ k → at ≤ length out
      → QueryPut q keys shown out at
  unfolding query_text
  all_printed {k} {out} {at} p h few Q same narrow =
      let whole : take k Q ≡ Q = take_all k Q (omega (arith, h, numbered_long Q (same, narrow))) in
      let text : take at out ≡ query_text Q = rw whole at (p.bytes Q (same, narrow)) in
      (text, sym (length-take-le at out few) ∙ ap length text)

-- ---- the lines

pub lines_few : (q : QueryValue) → q.count ≤ most_lines → length (lines_of q) ≤ most_lines
lines_few q h = simp length-take (omega (arith, h))

pub line_placed : {q : QueryValue} {keys : List ℕ} → NamedLines q keys → {k : ℕ} → k < length (lines_of q) → (d : Line)
    → AllPlaced keys (get_or (lines_of q) k d) × (length keys ≤ most_names)
line_placed {q} named {k} h d = (named.named (get_or (lines_of q) k d) (get_d_mem (lines_of q) k d h), named.most)

-- ---- the keys of the lines

pub keys_few : (names : Names) {n : ℕ} → names.count ≤ n → length (held names) ≤ n
keys_few names h = simp length-take (omega (arith, h))

-- a variable's key stands among those that were gathered
pub lines_named : (q : QueryValue) (names : Names) → q.count ≤ most_lines → BodyNamed q names → NamedLines q (held names)
lines_named q names few g =
    let most : length (held names) ≤ most_names = keys_few names g.most in
    record {
      few = few;
      most = most;
      named = λ l m t i v. omega (arith, before_member t.number (held names) (rw g.keys (all_keyed (lines_of q) l t m i v)), most);
    }
