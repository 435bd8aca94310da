-- The lines that get numbers for the keys of names are the values of the query that the rule becomes.
use mathlib.Core.Path.{◌≡◌, refl, sym, ap, ◌∙◌, subst}
use mathlib.Core.Bool.{Bool, true, false, cond}
use mathlib.Core.List.Memᴰ
use mathlib.Core.List.{List, [], ◌∷◌, map, map-map}
use Prim.Native.Nat.{ℕ, suc, ◌≤◌, ◌<◌}
use native.Mathlib.Nat.{not-suc-le-zero, le_of_suc-le-suc}
use native.Mathlib.Omega.{arith}
use lib.Dec.{T, eqb, eqb→eq, eqb_refl}
use lib.ListN.{length, length-map}
use Rattle.theory.specs.Query.{shown, hidden, ◌∈◌}
use Rattle.theory.specs.Executable.Test.{kind}
use Rattle.theory.specs.Executable.Test.{number as number_in}
use Rattle.theory.proofs.Executable.Test.{same_test, any_iff}
use Rattle.theory.proofs.Tuples.{map_same}
use Rattle.words.specs.Bits.{is_set}
use Rattle.text.specs.Lines.{before, same_bytes}
use Rattle.text.proofs.Names.{same_bytes_iff}
use Rattle.model.specs.Limits.{most_columns}
use Rattle.model.specs.Value.{pad, unused_term, term_value, terms_value, line_value}
use Rattle.model.proofs.Pad.{map_pad}
use Rattle.model.proofs.Terms.{terms_few}
use Rattle.rules.specs.Rule.{Name, Arg, variable, number, Atom, Rule}
use Rattle.rules.specs.Text.{is_name, lower}
use Rattle.rules.specs.Numbering.{stands, names, place_of, number_of, term_of, line_of, query_of}
use Rattle.rules.specs.Formed.{Formed}
use Rattle.rules.proofs.Names.{stands_iff, body_name, place_below, place_one}
use Rattle.rule_text.specs.Keys.{key, keyed}
use Rattle.rule_body.specs.Body.{keyed_lines}
use Rattle.rule_body.specs.Head.{placed_at}
use Rattle.numbering.specs.Lines.{numbered_term, numbered_line}
use Rattle.import.proofs.Named.{FewTerms, key_place, names_formed}

-- a name with a place before the end stands in the list
placed_stands : (l : List Name) (x : Name) → place_of x l < length l → x ∈ l
unfolding place_of
placed_stands [] x h = absurd (not-suc-le-zero h)
placed_stands (y ∷ l) x h = go (same_bytes x y) refl (placed_stands l x) h
  where
    go : (b : Bool) → same_bytes x y ≡ b → (place_of x l < length l → x ∈ l) → cond b 0 (suc (place_of x l)) < suc (length l) → x ∈ y ∷ l
    go true q later k = Memᴰ.head ((same_bytes_iff x y).0 (subst T (sym q) tt))
    go false q later k = Memᴰ.tail (later (le_of_suc-le-suc k))

-- the value of a variable, by its mark
marked_value : (b : Bool) (n : ℕ) → record { mark = cond b 2 3; number = n } ≡ term_value (cond b (shown n) (hidden n))
unfolding term_value kind number_in
marked_value true n = refl
marked_value false n = refl

module _ (r : Rule) (formed : Formed r) (few : FewTerms r.body) where
  -- ---- places

  -- the keys of the names of the body
  abbrev keys : List ℕ
  keys = map key (names r)

  place : (x : Name) → T (is_name lower x) → before (key x) keys ≡ place_of x (names r)
  place x h = key_place x (names r) h (names_formed r formed)

  -- the place of a name of the body is that of a name of the head exactly where this name stands in the head
  placed_head : (x : Name) → x ∈ names r → placed_at keys r.head (place_of x (names r)) ≡ stands x r.head
  unfolding placed_at
  placed_head x m =
      same_test (placed_at keys r.head (place_of x (names r))) (stands x r.head) (λ h. (stands_iff x r.head).1 (to h))
      (λ h. from ((stands_iff x r.head).0 h))
    where
      n : ℕ
      n = place_of x (names r)

      to : T (placed_at keys r.head n) → x ∈ r.head
      to h =
          let (y, i, t) = (any_iff (λ y. eqb (before (key y) keys) n) r.head).0 h in
          let e : place_of y (names r) ≡ place_of x (names r) = sym (place y (formed.head y i)) ∙ eqb→eq _ _ t in
          let stood = placed_stands (names r) y (omega (arith, e, place_below (names r) x m)) in
          subst (λ (z : Name). z ∈ r.head) (place_one (names r) y x stood m e) i

      from : x ∈ r.head → T (placed_at keys r.head n)
      from i =
          (any_iff (λ y. eqb (before (key y) keys) n) r.head).1
          (x, i, subst (λ (k : ℕ). T (eqb k n)) (sym (place x (formed.head x i))) (eqb_refl n))

  -- a word whose bits are the places of the names of the head
  module _ (word : ℕ) (set : (n : ℕ) → n < length (names r) → is_set word n ≡ placed_at keys r.head n) where
    -- ---- terms

    numbered_term_lem : (a : Atom) → a ∈ r.body → (t : Arg) → t ∈ a.args
        → numbered_term keys word (term_value (keyed t)) ≡ term_value (term_of r t)
    unfolding numbered_term term_value kind number_in keyed term_of
    numbered_term_lem a m (number c) i = refl
    numbered_term_lem a m (variable x) i =
        let stood = body_name r a x m i in
        let mark : is_set word (place_of x (names r)) ≡ stands x r.head
        = set (place_of x (names r)) (place_below (names r) x stood) ∙ placed_head x stood in
        rw (place x ((formed.body a m).args (variable x) i), mark) (marked_value (stands x r.head) (number_of r x))

    -- ---- lines

    unused_numbered : numbered_term keys word unused_term ≡ unused_term
    unfolding numbered_term unused_term
    unused_numbered = refl

    numbered_terms : (a : Atom) → a ∈ r.body
        → map (numbered_term keys word) (terms_value (map keyed a.args)) ≡ terms_value (map (term_of r) a.args)
    numbered_terms a m =
        let long : length (map keyed a.args) ≤ most_columns = rw (length-map a.args keyed) (few a m) in
        let short : length (map (term_of r) a.args) ≤ most_columns = rw (length-map a.args (term_of r)) (few a m) in
        let f = numbered_term keys word in
        ap (map f) (terms_few (map keyed a.args) long)
        ∙ map_pad f most_columns unused_term (map term_value (map keyed a.args)) unused_numbered
        ∙ ap (pad most_columns unused_term)
        (ap (map f) (map-map term_value keyed a.args) ∙ map-map f (λ t. term_value (keyed t)) a.args
        ∙ map_same (λ t. f (term_value (keyed t))) (λ t. term_value (term_of r t)) a.args (numbered_term_lem a m)
        ∙ sym (map-map term_value (term_of r) a.args))
        ∙ sym (terms_few (map (term_of r) a.args) short)

    numbered_line_lem : (a : Atom) → a ∈ r.body → numbered_line keys word (line_value (line_of keyed a)) ≡ line_value (line_of (term_of r) a)
    unfolding numbered_line line_value line_of
    numbered_line_lem a m = λ i. record { table = a.table; terms = numbered_terms a m i }

    pub numbered_lines : map (numbered_line keys word) (map line_value (keyed_lines r.body)) ≡ map line_value (query_of r)
    unfolding keyed_lines query_of
    numbered_lines =
        let f = numbered_line keys word in
        ap (map f) (map-map line_value (line_of keyed) r.body) ∙ map-map f (λ a. line_value (line_of keyed a)) r.body
        ∙ map_same (λ a. f (line_value (line_of keyed a))) (λ a. line_value (line_of (term_of r) a)) r.body numbered_line_lem
        ∙ sym (map-map line_value (line_of (term_of r)) r.body)
