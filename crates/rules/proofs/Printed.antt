-- A text reads to a rule exactly when a text can say the rule and is the rule printed.
use mathlib.Core.Path.{◌≡◌, refl, sym, ap, ap₂, ◌∙◌, subst}
use mathlib.Core.Logic.{◌↔◌}
use mathlib.Core.Bool.{Bool, true, false, cond}
use mathlib.Core.Option.{some, some-injective, none-ne-some}
use mathlib.Core.List.Memᴰ
use mathlib.Core.List.{List, [], ◌∷◌, ◌++◌, map, map-id, map-map, append_assoc, nil≢cons}
use Prim.Native.Nat.{ℕ, ◌≤◌, zero-le, suc-le-suc}
use native.Mathlib.Nat.{not-suc-le-zero}
use native.Mathlib.Omega.{arith}
use lib.Dec.{T}
use lib.ListN.{length, take, drop, take-append-drop, length-append}
use Rattle.theory.specs.Executable.Test.{all}
use Rattle.text.specs.Lines.{newline, parts, before, same_bytes}
use Rattle.text.specs.Names.{bytes}
use Rattle.text.specs.Print.{joined_by}
use Rattle.text.proofs.Each.{Each, each_nil, each_cons, each_append, each_map}
use Rattle.text.proofs.Lines.{Free}
use Rattle.text.proofs.PartsJoined.{joined_parts, parts_joined}
use Rattle.text.proofs.Names.{same_bytes_iff, same_true, same_false}
use Rattle.model.specs.Fields.{both}
use Rattle.model.proofs.ReadLines.{both_some}
use Rattle.rules.specs.Rule.{Name, Atom, Rule}
use Rattle.rules.specs.Text.{comma, opening, closing, onto, unended, upper, lower, is_name, name_of}
use Rattle.rules.specs.Text.{series, head_names, atom_of, body_of, rule_of_pieces, rule_of}
use Rattle.rules.specs.Print.{listed, atom_text, rule_text}
use Rattle.rules.specs.Formed.{AtomFormed, Formed}
use Rattle.rules.proofs.Pieces.{free, onto_some, unended_iff, opened}
use Rattle.rules.proofs.Series.{pieces, pieces_free, listed_free, brackets_listed, series_iff, listed_iff}
use Rattle.rules.proofs.Atoms.{name_free, name_iff, open_atom, atom_iff, atom_free}

-- ---- the head

abbrev Variable : Name → Type 0
Variable x = T (is_name lower x)

variable_some : (x : Name) → Variable x → 1 ≤ length x
unfolding is_name
variable_some [] h = absurd h
variable_some (b ∷ x) h = suc-le-suc zero-le

-- names that are listed take up bytes
listed_some : (x : Name) (xs : List Name) → 1 ≤ length x → 1 ≤ length (listed (x ∷ xs))
unfolding listed bytes
listed_some x [] h = h
listed_some x (y ∷ ys) h = simp length-append (omega arith)

-- where there is a name
names_iff : (l : List ℕ) (xs : List Name)
    → (series (bytes "(") (bytes " ") (name_of lower) (parts comma l) ≡ some xs)
    ↔ ((1 ≤ length xs) × Each Variable xs × (l ≡ bytes "(" ++ listed (map (λ x. x) xs)))
names_iff =
    listed_iff (name_of lower) (λ x. x) Variable (name_iff lower)
    (λ x h. name_free comma lower x (omega arith) (omega arith) h)

head_iff : (l : List ℕ) (xs : List Name) → (head_names l ≡ some xs) ↔ (Each Variable xs × (l ≡ bytes "(" ++ listed xs))
unfolding head_names bytes listed
head_iff l xs = (to (same_bytes l (bytes "(")) (λ t. t), from xs)
  where
    to : (b : Bool) → (T b → T (same_bytes l (bytes "(")))
        → cond b (some []) (series (bytes "(") (bytes " ") (name_of lower) (parts comma l)) ≡ some xs
        → Each Variable xs × (l ≡ bytes "(" ++ listed xs)
    to true q e =
        subst (λ (ys : List Name). Each Variable ys × (l ≡ bytes "(" ++ listed ys)) (some-injective [] xs e)
        (each_nil Variable, (same_bytes_iff l (bytes "(")).0 (q tt))
    to false q e =
        let (some-name, h, is) = (names_iff l xs).0 e in (h, is ∙ ap (λ (ys : List Name). bytes "(" ++ listed ys) (map-id xs))

    from : (ys : List Name) → Each Variable ys × (l ≡ bytes "(" ++ listed ys)
        → cond (same_bytes l (bytes "(")) (some []) (series (bytes "(") (bytes " ") (name_of lower) (parts comma l)) ≡ some ys
    from [] (h, e) = rw (sym (same_true l (bytes "(") e))
    from (y ∷ ys) (h, e) =
        let long = listed_some y ys (variable_some y (h y (Memᴰ.head refl))) in
        let more : l ≡ bytes "(" → ⊥ = λ q. omega (arith, long, ap length (sym e ∙ q)) in
        rw (sym (same_false l (bytes "(") more))
        ((names_iff l (y ∷ ys)).1
        (suc-le-suc zero-le, h, e ∙ ap (λ (zs : List Name). bytes "(" ++ listed zs) (sym (map-id (y ∷ ys)))))

-- ---- the body

-- the atoms without the brackets that close them, behind what stands before them
abbrev pub open_atoms : List Atom → List (List ℕ)
open_atoms l = pieces (bytes " :- ") (bytes ", ") (map open_atom l)

body_iff : (ps : List (List ℕ)) (l : List Atom)
    → (body_of ps ≡ some l) ↔ ((1 ≤ length l) × Each AtomFormed l × (ps ≡ open_atoms l))
unfolding body_of pieces
body_iff ps l = (to ps l, from ps l)
  where
    atoms_iff : (ps : List (List ℕ)) (l : List Atom)
        → (series (bytes " :- ") (bytes ", ") atom_of ps ≡ some l) ↔ (Each AtomFormed l × (ps ≡ open_atoms l))
    atoms_iff = series_iff atom_of open_atom AtomFormed atom_iff (bytes " :- ") (bytes ", ")

    to : (ps : List (List ℕ)) (l : List Atom) → body_of ps ≡ some l → (1 ≤ length l) × Each AtomFormed l × (ps ≡ open_atoms l)
    to [] l e = absurd (none-ne-some l e)
    to (p ∷ ps) [] e = absurd (nil≢cons (sym ((atoms_iff (p ∷ ps) []).0 e).1))
    to (p ∷ ps) (a ∷ l) e = let (h, is) = (atoms_iff (p ∷ ps) (a ∷ l)).0 e in (suc-le-suc zero-le, h, is)

    from : (ps : List (List ℕ)) (l : List Atom) → (1 ≤ length l) × Each AtomFormed l × (ps ≡ open_atoms l) → body_of ps ≡ some l
    from ps [] r = absurd (not-suc-le-zero r.0)
    from [] (a ∷ l) r = absurd (nil≢cons r.2)
    from (p ∷ ps) (a ∷ l) r = (atoms_iff (p ∷ ps) (a ∷ l)).1 (r.1, r.2)

-- ---- a rule between the brackets that close

-- the head without the bracket that closes it
pub open_head : Rule → List ℕ
open_head r = r.name ++ bytes "(" ++ listed r.head

abbrev pub rule_pieces : Rule → List (List ℕ)
rule_pieces r = open_head r ∷ open_atoms r.body

-- the name stands before the first bracket of the first piece, the variables from there on
pub pieces_to : (ps : List (List ℕ)) (r : Rule) → rule_of_pieces ps ≡ some r → Formed r × (ps ≡ rule_pieces r)
unfolding rule_of_pieces open_head
pieces_to [] r e = absurd (none-ne-some r e)
pieces_to (h ∷ ps) r e =
    let n = before opening h in
    let (rule, l, front, atoms, is) = both_some (λ (rule : List Atom → Rule) l. rule l) _ (body_of ps) r e in
    let (x, xs, name, names, made) = both_some _ (name_of upper (take n h)) (head_names (drop n h)) rule front in
    let (named, x-is) = (name_iff upper (take n h) x).0 name in
    let (variables, opens) = (head_iff (drop n h) xs).0 names in
    let (nonempty, formed, others) = (body_iff ps l).0 atoms in
    let head : h ≡ x ++ bytes "(" ++ listed xs
    = sym (take-append-drop n h) ∙ ap₂ {C = List ℕ} ◌++◌ x-is opens ∙ sym (append_assoc x (bytes "(") (listed xs)) in
    subst (λ (s : Rule). Formed s × (h ∷ ps ≡ rule_pieces s)) (ap (λ (f : List Atom → Rule). f l) made ∙ is) (
      record { name = named; head = variables; nonempty = nonempty; body = formed },
      ap₂ {C = List (List ℕ)} ◌∷◌ head others,
    )

pieces_from : (h : List ℕ) (r : Rule) → Formed r → h ≡ open_head r → rule_of_pieces (h ∷ open_atoms r.body) ≡ some r
unfolding rule_of_pieces open_head both bytes
pieces_from h r f e =
    let no_bracket = name_free opening upper r.name (omega arith) (omega arith) f.name in
    let (first, rest) = opened h r.name (listed r.head) no_bracket (e ∙ append_assoc r.name (bytes "(") (listed r.head)) in
    ap₂ (both (λ (rule : List Atom → Rule) l. rule l))
    (ap₂ (both (λ x xs l. record { name = x; head = xs; body = l }))
    ((name_iff upper (take (before opening h) h) r.name).1 (f.name, first))
    ((head_iff (drop (before opening h) h) r.head).1 (f.head, rest)))
    ((body_iff (open_atoms r.body) r.body).1 (f.nonempty, f.body, refl))

closing_free : (r : Rule) → Formed r → Each (Free closing) (rule_pieces r)
unfolding open_head all bytes
closing_free r f =
    each_cons (Free closing) (open_head r) (open_atoms r.body)
    (each_append _ (r.name ++ bytes "(") (listed r.head)
    (each_append _ r.name (bytes "(")
    (name_free closing upper r.name (omega arith) (omega arith) f.name) (free closing (bytes "(") tt))
    (listed_free closing r.head (free closing (bytes ", ") tt)
    (λ x m. name_free closing lower x (omega arith) (omega arith) (f.head x m))))
    (pieces_free closing (bytes " :- ") (bytes ", ") (map open_atom r.body) (free closing (bytes " :- ") tt)
    (free closing (bytes ", ") tt)
    (each_map (Free closing) open_atom r.body (λ a m. atom_free a (f.body a m))))

-- ---- the rule

-- the pieces, brackets between them and behind them, are the rule printed
rule_joined : (r : Rule) → 1 ≤ length r.body → joined_by closing (rule_pieces r) ++ bytes ")\n" ≡ rule_text r
unfolding open_head open_atom atom_text rule_text pieces joined_by bytes
rule_joined r h = go r.body h
  where
    go : (l : List Atom) → 1 ≤ length l
        → joined_by closing (open_head r ∷ open_atoms l) ++ bytes ")\n"
        ≡ open_head r ++ bytes ") :- " ++ listed (map atom_text l) ++ newline ∷ []
    go [] h = absurd (not-suc-le-zero h)
    go (a ∷ l) h =
        let atoms = listed (map atom_text (a ∷ l)) in
        append_assoc (open_head r) (closing ∷ joined_by closing (open_atoms (a ∷ l))) (bytes ")\n")
        ∙ ap (λ (k : List ℕ). open_head r ++ closing ∷ k) (brackets_listed (bytes " :- ") (open_atom a) (newline ∷ []) (map open_atom l))
        ∙ ap (λ (fs : List (List ℕ)). open_head r ++ closing ∷ (bytes " :- " ++ listed fs ++ newline ∷ []))
        (map-map (λ f. f ++ bytes ")") open_atom (a ∷ l))
        ∙ sym (append_assoc (open_head r ++ bytes ") :- ") atoms (newline ∷ [])
        ∙ append_assoc (open_head r) (bytes ") :- ") (atoms ++ newline ∷ []))

pub rule_reads_exactly : (text : List ℕ) (r : Rule) → (rule_of text ≡ some r) ↔ (Formed r × (text ≡ rule_text r))
unfolding rule_of bytes
rule_reads_exactly text r = (to, from)
  where
    to : rule_of text ≡ some r → Formed r × (text ≡ rule_text r)
    to e =
        let (m, ended, reads) = onto_some (λ k. rule_of_pieces (parts closing k)) (unended (bytes ")\n") text) r e in
        let (f, is) = pieces_to (parts closing m) r reads in
        let same : m ≡ joined_by closing (rule_pieces r) = sym (joined_parts closing m) ∙ ap (joined_by closing) is in
        let whole = (unended_iff (bytes ")\n") text m (suc-le-suc zero-le)).0 ended in
        (f, whole ∙ ap (λ (k : List ℕ). k ++ bytes ")\n") same ∙ rule_joined r f.nonempty)

    from : Formed r × (text ≡ rule_text r) → rule_of text ≡ some r
    from (f, e) =
        let m = joined_by closing (rule_pieces r) in
        ap (onto (λ k. rule_of_pieces (parts closing k)))
        ((unended_iff (bytes ")\n") text m (suc-le-suc zero-le)).1 (e ∙ sym (rule_joined r f.nonempty)))
        ∙ ap rule_of_pieces (parts_joined closing (open_head r) (open_atoms r.body) (closing_free r f))
        ∙ pieces_from (open_head r) r f refl
