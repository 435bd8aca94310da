-- A rule's two pieces, its head and its body, by what was read of each: the number of what turns the rule back, or the lines of its query.
use mathlib.Core.Path.{◌≡◌, refl, sym, ap, ◌∙◌, subst}
use mathlib.Core.Logic.{inl, inr}
use mathlib.Core.Bool.{Bool, true, false, true≢false, cond, not}
use mathlib.Core.List.Memᴰ
use mathlib.Core.List.{List, [], ◌∷◌, ◌++◌, map}
use mathlib.Core.Option.{Option as Maybe, none, some}
use Prim.Native.Nat.{ℕ, ◌≤◌, ◌<◌}
use native.Mathlib.Omega.{arith}
use lib.ListN.{length, take, drop, length-map}
use lib.Seq.{take_at}
use Rattle.std.specs.Prelude.{Option, Some, None, Ok, Err}
use Rattle.std.specs.Option.{is_some}
use Rattle.std.proofs.lemmas.Option.{none-some}
use Rattle.theory.specs.Query.{Query, ◌∈◌}
use Rattle.theory.specs.Query.{Line as TheLine}
use Rattle.theory.specs.Executable.Test.{all}
use Rattle.words.specs.Bits.{is_set}
use Rattle.text.specs.Lines.{before, parts}
use Rattle.model.specs.Limits.{most_columns}
use Rattle.model.specs.Checks.{first_fault}
use Rattle.model.specs.Fields.{both}
use Rattle.model.proofs.FirstFault.{fault_before, fault_behind}
use Rattle.model.specs.Value.{pad, line_value, query_value, tables_value}
use Rattle.model.specs.declared.Tables.{Tables}
use Rattle.rules.specs.Rule.{Name, Atom, Rule}
use Rattle.rules.specs.Text.{opening, closing, upper, name_of, head_names, body_of, rule_of_pieces}
use Rattle.rules.specs.Formed.{Formed}
use Rattle.rules.specs.Numbering.{stands, names as names_in, term_of, line_of, query_of}
use Rattle.rules.specs.Checks.{rule_fault, repeats, body_checks, head_checks}
use Rattle.rules.proofs.Printed.{pieces_to}
use Rattle.rules.proofs.Checked.{BodyChecked, body_checked, same_fault, narrow_atoms}
use Rattle.rule_text.specs.Keys.{key, keyed}
use Rattle.rule_body.specs.Body.{keyed_lines, fault_value, body_fault, AtomsRead, BodyRead}
use Rattle.rule_body.specs.Head.{placed_at, NamesHeld, Headless, HeadRead}
use Rattle.rule_body.specs.declared.body.Body.{Body}
use Rattle.rule_body.specs.declared.head.Head.{Head}
use Rattle.rule_body.proofs.Faults.{no_fault, fault_some}
use Rattle.numbering.specs.Names.{held as keys, is_key, keys_of, BodyNamed}
use Rattle.numbering.specs.declared.names.Names.{Names}
use Rattle.numbering.specs.Lines.{numbered_line}
use Rattle.import.specs.Translating.{lines_of, QueryPut, first_of, TranslatedAs, Narrow}
use Rattle.import.proofs.Named.{keys_are, names_formed, all_keys, key_repeats}
use Rattle.import.proofs.Numbered.{numbered_lines}

-- ---- the first of what turns a rule back

pub first_some : (b : Option ℕ) (h : Head) → is_some b ≡ true → b ≡ first_of b h
unfolding first_of
first_some None h e = absurd (true≢false (sym e))
first_some (Some n) h e = refl

pub first_none : (b : Option ℕ) (h : Head) → is_some b ≡ false → first_of b h ≡ first_of None h
first_none None h e = refl
first_none (Some n) h e = absurd (true≢false e)

-- ---- a rule's pieces

module _ (head : List ℕ) (ps : List (List ℕ)) where
  pub no_rule : body_of ps ≡ none → rule_of_pieces (head ∷ ps) ≡ none
  unfolding rule_of_pieces both
  no_rule e =
      go
      (both (λ x xs atoms. record { name = x; head = xs; body = atoms }) (name_of upper (take (before opening head) head))
      (head_names (drop (before opening head) head)))
    where
      go : (o : Maybe (List Atom → Rule)) → both (λ (rule : List Atom → Rule) atoms. rule atoms) o (body_of ps) ≡ none
      go none = refl
      go (some f) = rw e

  pub no_head : Headless head → rule_of_pieces (head ∷ ps) ≡ none
  unfolding rule_of_pieces both
  no_head (inl e) = rw e
  no_head (inr e) = go (name_of upper (take (before opening head) head))
    where
      go : (o : Maybe Name)
          → both (λ (rule : List Atom → Rule) atoms. rule atoms)
          (both (λ x xs atoms. record { name = x; head = xs; body = atoms }) o (head_names (drop (before opening head) head))) (body_of ps)
          ≡ none
      go none = refl
      go (some x) = rw e

-- the lines of a query's value
value_lines : (Q : Query) → lines_of (query_value Q) ≡ map line_value Q
unfolding query_value pad
value_lines Q = take_at (map line_value Q) _ (length Q) (length-map Q line_value)

-- ---- what was read of both

module _ (widths : List ℕ) (narrow : Narrow widths) (tables : Tables) (held : tables ≡ tables_value widths) (head body : List ℕ) (b : Body)
    (read : BodyRead tables body b) (names : Names) (gathered : BodyNamed b.query names) (h : Head) (seen : HeadRead head (keys names) h) where
  abbrev rule : Maybe Rule
  rule = rule_of_pieces (head ∷ parts closing body)

  r : Rule
  r = record { name = seen.name; head = seen.shows.names; body = read.atoms }

  is : rule ≡ some r
  unfolding rule_of_pieces both r
  is = rw (seen.named, seen.shows.parses, read.parses)

  formed : Formed r
  formed = (pieces_to (head ∷ parts closing body) r is).0

  names_held : NamesHeld (keys names) r.head h
  unfolding r
  names_held = seen.shows.held

  atoms_read : AtomsRead widths r.body b
  unfolding r
  atoms_read = read.read widths held

  -- ---- a body without fault

  module _ (clear : b.fault ≡ None) where
    checked : BodyChecked widths keyed r.body
    unfolding body_fault keyed_lines
    checked = body_checked widths keyed r.body (no_fault (body_fault widths r.body) (sym atoms_read.fault ∙ clear))

    few : (a : Atom) → a ∈ r.body → length a.args ≤ most_columns
    few = narrow_atoms widths narrow checked

    lines_are : lines_of b.query ≡ map line_value (keyed_lines r.body)
    lines_are = ap lines_of (atoms_read.query clear) ∙ value_lines (keyed_lines r.body)

    keys_named : keys names ≡ map key (names_in r)
    unfolding names_in
    keys_named = gathered.keys ∙ ap (keys_of []) lines_are ∙ keys_are r.body (λ a m. (formed.body a m).args) few

    -- the head's two checks
    head_fault : first_of None h ≡ fault_value (first_fault (head_checks r))
    unfolding first_fault first_of fault_value
    head_fault = go h.missing refl
      where
        lacks : h.missing ≡ not (all (λ x. stands x (names_in r)) r.head)
        lacks =
            names_held.missing
            ∙ ap (λ (ks : List ℕ). not (all (λ x. is_key (key x) ks) r.head)) keys_named
            ∙ ap not (all_keys r.head (names_in r) formed.head (names_formed r formed))

        twice : (t : Bool) → cond t (Some 12) None ≡ fault_value (cond t 12 0)
        twice true = refl
        twice false = refl

        go : (m : Bool) → h.missing ≡ m
            → cond m (Some 11) (cond h.twice (Some 12) None)
            ≡ fault_value (cond (not (all (λ x. stands x (names_in r)) r.head)) 11 (cond (repeats r.head) 12 0))
        go true e = rw (sym lacks ∙ e) refl
        go false e = rw (sym lacks ∙ e, sym (names_held.twice e ∙ key_repeats r.head formed.head)) (twice h.twice)

    -- the lines with the numbers of the rule's variables
    numbered : map (numbered_line (keys names) h.shown) (lines_of b.query) ≡ map line_value (query_of r)
    numbered =
        rw (lines_are, keys_named)
        (numbered_lines r formed few h.shown
        (λ n i. subst (λ (ks : List ℕ). (m : ℕ) → m < length ks → is_set h.shown m ≡ placed_at ks r.head m) keys_named
        names_held.shown n (omega (arith, i, length-map (names_in r) key))))

    narrow_lines : (A : TheLine) → A ∈ query_of r → length A.columns ≤ most_columns
    unfolding query_of line_of
    narrow_lines A m =
        let (a, i, e) = Memᴰ.of_map (line_of (term_of r)) r.body m in
        subst (λ (B : TheLine). length B.columns ≤ most_columns) e (rw (length-map a.args (term_of r)) (few a i))

  -- ---- the rule's fault

  body_fault_lem : b.fault ≡ fault_value (first_fault (body_checks widths r.body (query_of r)))
  unfolding body_fault keyed_lines query_of
  body_fault_lem = atoms_read.fault ∙ ap fault_value (same_fault widths keyed (term_of r) r.body)

  fault_is : first_of b.fault h ≡ fault_value (rule_fault widths r)
  unfolding rule_fault all first_of fault_value
  fault_is = go b.fault refl
    where
      go : (o : Option ℕ) → b.fault ≡ o → first_of o h ≡ fault_value (first_fault (body_checks widths r.body (query_of r) ++ head_checks r))
      go None z =
          head_fault z
          ∙ ap fault_value (fault_behind (body_checks widths r.body (query_of r)) (head_checks r) tt (no_fault _ (sym body_fault_lem ∙ z)))
      go (Some n) z =
          sym z ∙ body_fault_lem
          ∙ ap fault_value
          (fault_before (body_checks widths r.body (query_of r)) (head_checks r) (λ y. none-some n (ap fault_value (sym y) ∙ sym body_fault_lem ∙ z)))

  -- ---- the reply

  pub parts_refused : (out : List ℕ) (n : ℕ) → Some n ≡ first_of b.fault h → TranslatedAs widths rule out (Err (record { number = n }))
  parts_refused out n e =
      subst (λ (o : Maybe Rule). TranslatedAs widths o out (Err (record { number = n }))) (sym is) (fault_some (rule_fault widths r) n (e ∙ fault_is))

  pub parts_written : (out : List ℕ) (n : ℕ) → None ≡ first_of b.fault h → QueryPut b.query (keys names) h.shown out n
      → TranslatedAs widths rule out (Ok n)
  unfolding first_of
  parts_written out n e put =
      let c = clear b.fault refl e in
      let (text, long) = put (query_of r) (numbered c) (narrow_lines c) in
      subst (λ (o : Maybe Rule). TranslatedAs widths o out (Ok n)) (sym is) (no_fault (rule_fault widths r) (sym (e ∙ fault_is)), text, long)
    where
      clear : (o : Option ℕ) → b.fault ≡ o → None ≡ first_of o h → b.fault ≡ None
      clear None z y = z
      clear (Some m) z y = absurd (none-some m y)
