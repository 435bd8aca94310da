-- A rule without fault becomes a query whose text reads back to it.
use mathlib.Core.Path.{◌≡◌, refl, sym, ap, ◌∙◌, subst}
use mathlib.Core.Bool.{Bool, true, false, cond}
use mathlib.Core.List.Memᴰ
use mathlib.Core.List.{List, [], ◌∷◌, ◌++◌, map}
use Prim.Native.Nat.{ℕ, suc, ◌+◌, ◌*◌, ◌≤◌}
use native.Mathlib.Omega.{arith}
use lib.Dec.{T, leb, le→leb}
use lib.ListN.{length, length-append, length-map}
use Rattle.theory.specs.Query.{Term, shown, hidden, Line, ◌∈◌, NoClash}
use Rattle.theory.specs.Executable.Test.{kind, number as number_in}
use Rattle.model.specs.Limits.{most_columns, last_variable, up_to, term_within, line_within}
use Rattle.model.proofs.Limits.{line_within_iff}
use Rattle.query_text.specs.Text.{accepted, read}
use Rattle.query_text.specs.Print.{query_text}
use Rattle.query_text.specs.WellRead.{WellRead}
use Rattle.query_text.proofs.Printed.{well_read, text_reads}
use Rattle.rules.specs.Rule.{Name, Arg, variable, number, Atom, Rule}
use Rattle.rules.specs.Numbering.{body_args, stands, firsts, names, number_of, term_of, line_of, query_of}
use Rattle.rules.specs.Checks.{arg_within, rule_fault}
use Rattle.rules.proofs.Checked.{BodyChecked, atom_within_iff, rule_checked, narrow_atoms}
use Rattle.rules.proofs.Names.{stands_iff, body_name, place_below, place_one}

-- ---- how many names a body can have

-- each term brings one name at most
firsts_few : (l : List Arg) (seen : List Name) → length (firsts seen l) ≤ length seen + length l
unfolding firsts
firsts_few [] seen = omega arith
firsts_few (number c ∷ l) seen = omega (arith, firsts_few l seen)
firsts_few (variable x ∷ l) seen = omega (arith, firsts_few l (cond (stands x seen) seen (seen ++ x ∷ [])), go (stands x seen))
  where
    go : (b : Bool) → length (cond b seen (seen ++ x ∷ [])) ≤ suc (length seen)
    go true = omega arith
    go false = simp length-append (omega arith)

args_few : (most : ℕ) (l : List Atom) → ((a : Atom) → a ∈ l → length a.args ≤ most) → length (body_args l) ≤ length l * most
unfolding body_args
args_few most [] h = omega arith
args_few most (a ∷ l) h =
    let k = h a (Memᴰ.head refl) in
    let rest = args_few most l (λ b m. h b (Memᴰ.tail m)) in
    simp length-append (omega arith)

-- ---- marks

-- a term is shown where it is a variable of the head, and has its number
pub shown_of : (r : Rule) (t : Arg) (n : ℕ) → term_of r t ≡ shown n → (x : Name) × (t ≡ variable x) × (x ∈ r.head) × (number_of r x ≡ n)
unfolding term_of kind number_in
shown_of r (number c) n e = let z : ◌≡◌ {A = ℕ} 0 1 = ap kind e in absurd (omega arith)
shown_of r (variable x) n e = go (stands x r.head) refl e
  where
    go : (b : Bool) → stands x r.head ≡ b → cond b (shown (number_of r x)) (hidden (number_of r x)) ≡ shown n
        → (y : Name) × (variable x ≡ variable y) × (y ∈ r.head) × (number_of r y ≡ n)
    go true q k = (x, refl, (stands_iff x r.head).0 (subst T (sym q) tt), ap number_in k)
    go false q k = let z : ◌≡◌ {A = ℕ} 2 1 = ap kind k in absurd (omega arith)

-- and hidden where it is another
hidden_of : (r : Rule) (t : Arg) (n : ℕ) → term_of r t ≡ hidden n → (x : Name) × (t ≡ variable x) × (x ∈ r.head → ⊥) × (number_of r x ≡ n)
unfolding term_of kind number_in
hidden_of r (number c) n e = let z : ◌≡◌ {A = ℕ} 0 2 = ap kind e in absurd (omega arith)
hidden_of r (variable x) n e = go (stands x r.head) refl e
  where
    go : (b : Bool) → stands x r.head ≡ b → cond b (shown (number_of r x)) (hidden (number_of r x)) ≡ hidden n
        → (y : Name) × (variable x ≡ variable y) × (y ∈ r.head → ⊥) × (number_of r y ≡ n)
    go true q k = let z : ◌≡◌ {A = ℕ} 1 2 = ap kind k in absurd (omega arith)
    go false q k = (x, refl, λ m. subst T q ((stands_iff x r.head).1 m), ap number_in k)

-- a number is that of one name, and a name has one mark
marks_clear : (r : Rule) → NoClash (query_of r)
unfolding query_of line_of number_of
marks_clear r n A B i j p q =
    let (a, ai, ae) = Memᴰ.of_map (line_of (term_of r)) r.body i in
    let (b, bi, be) = Memᴰ.of_map (line_of (term_of r)) r.body j in
    let (t, ti, te) = Memᴰ.of_map (term_of r) a.args (subst (λ (C : Line). shown n ∈ C.columns) (sym ae) p) in
    let (u, ui, ue) = Memᴰ.of_map (term_of r) b.args (subst (λ (C : Line). hidden n ∈ C.columns) (sym be) q) in
    let (x, tx, in_head, xn) = shown_of r t n te in
    let (y, uy, not_in, yn) = hidden_of r u n ue in
    let xm = body_name r a x ai (subst (λ (v : Arg). v ∈ a.args) tx ti) in
    let ym = body_name r b y bi (subst (λ (v : Arg). v ∈ b.args) uy ui) in
    not_in (subst (λ (z : Name). z ∈ r.head) (place_one (names r) x y xm ym (xn ∙ sym yn)) in_head)

-- ---- under tables of 1 to the most columns

module _ (widths : List ℕ) (narrow : (n : ℕ) → n ∈ widths → T (up_to most_columns n)) (r : Rule) where
  names_few : BodyChecked widths (term_of r) r.body → length (names r) ≤ suc last_variable
  unfolding names query_of line_of
  names_few c =
      let body = args_few most_columns r.body (narrow_atoms widths narrow c) in
      let first = firsts_few (body_args r.body) [] in
      let few = c.few in
      omega arith

  arg_within_lem : length (names r) ≤ suc last_variable → (a : Atom) → a ∈ r.body → (t : Arg) → t ∈ a.args → T (arg_within t)
      → T (term_within (term_of r t))
  unfolding term_of term_within arg_within number_of
  arg_within_lem few a m (number c) i h = h
  arg_within_lem few a m (variable x) i h = go (stands x r.head)
    where
      low : T (leb (number_of r x) last_variable)
      low = le→leb (number_of r x) last_variable (omega (arith, few, place_below (names r) x (body_name r a x m i)))

      go : (b : Bool) → T (term_within (cond b (shown (number_of r x)) (hidden (number_of r x))))
      go true = low
      go false = low

  lines_within : BodyChecked widths (term_of r) r.body → (A : Line) → A ∈ query_of r → T (line_within A)
  unfolding query_of line_of
  lines_within c A m =
      let (a, i, e) = Memᴰ.of_map (line_of (term_of r)) r.body m in
      let k = (atom_within_iff a).0 (c.within a i) in
      let term : (t : Term) → t ∈ map (term_of r) a.args → T (term_within t) = λ t n.
      let (x, j, q) = Memᴰ.of_map (term_of r) a.args n in
      subst (λ (u : Term). T (term_within u)) q (arg_within_lem (names_few c) a i x j (k.1 x j))
      in
      subst (λ (B : Line). T (line_within B)) e ((line_within_iff (line_of (term_of r) a)).1 (k.0, term))

  pub rule_well_read : 1 ≤ length r.body → rule_fault widths r ≡ 0 → WellRead widths (query_of r)
  unfolding query_of
  rule_well_read nonempty e =
      let c = rule_checked widths r e in
      let long : length (query_of r) ≡ length r.body = length-map r.body (line_of (term_of r)) in
      let few = c.few in
      well_read widths narrow (query_of r) (omega arith) (lines_within c) c.fits (omega arith) (marks_clear r)

  -- the text that is written reads back under the same tables
  pub rule_text_reads : 1 ≤ length r.body → rule_fault widths r ≡ 0 → read widths (query_text (query_of r)) ≡ accepted (query_of r)
  rule_text_reads nonempty e = text_reads widths (query_of r) (rule_well_read nonempty e)

-- at most 8 atoms of at most 8 terms: a body has no more names than there are numbers of variables
pub few_names : (r : Rule) (widths : List ℕ) → ((n : ℕ) → n ∈ widths → T (up_to most_columns n)) → rule_fault widths r ≡ 0
    → length (names r) ≤ suc last_variable
few_names r widths narrow e = names_few widths narrow r (rule_checked widths r e)
