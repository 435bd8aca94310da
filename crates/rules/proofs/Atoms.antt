-- Names, terms and atoms are read exactly as they are printed.
use mathlib.Core.Path.{◌≡◌, refl, sym, ap, ap₂, ◌∙◌, subst}
use mathlib.Core.Logic.{◌↔◌}
use mathlib.Core.Bool.{Bool, true, false, cond, ◌&&◌}
use mathlib.Core.Option.{none, some, some-injective, none-ne-some}
use mathlib.Core.List.Memᴰ
use mathlib.Core.List.{List, [], ◌∷◌, ◌++◌, map, append_assoc}
use Prim.Native.Nat.{ℕ, ◌+◌, ◌≤◌, ◌<◌}
use native.Mathlib.Omega.{arith}
use lib.Dec.{T, leb, ltb, leb→le, not_T}
use lib.Ieee.Bits.{is_true, is_false}
use lib.ListN.{length, take, drop, take-append-drop}
use mir.Facts.{and_yes}
use Rattle.theory.specs.Executable.Test.{all}
use Rattle.text.specs.Lines.{before}
use Rattle.text.specs.Names.{bytes}
use Rattle.text.specs.Numeral.{is_digit, all_digits, numeral}
use Rattle.text.specs.Print.{decimal}
use Rattle.text.proofs.Each.{Each, each_nil, each_cons, each_append, each_map}
use Rattle.text.proofs.Lines.{Free}
use Rattle.text.proofs.Decimals.{decimal_digits, numeral_iff}
use Rattle.model.specs.Fields.{both, mapped}
use Rattle.model.proofs.ReadLines.{both_some, mapped_some}
use Rattle.rules.specs.Rule.{Name, Arg, variable, number, Atom}
use Rattle.rules.specs.Text.{comma, opening, closing, onto, behind, lower, is_name, name_of, arg_of, args_of, atom_of}
use Rattle.rules.specs.Print.{listed, arg_text}
use Rattle.rules.specs.Formed.{ArgFormed, AtomFormed}
use Rattle.rules.proofs.Pieces.{free, onto_some, behind_iff, opened}
use Rattle.rules.proofs.Series.{listed_free, listed_iff}

-- ---- the bytes of names and numerals

-- neither bracket, comma nor space
abbrev Plain : ℕ → Type 0
Plain x = comma < x

plain_free : (b : ℕ) (l : List ℕ) → b ≤ comma → Each Plain l → Free b l
plain_free b l low h x m e = let k = h x m in omega arith

digits_plain : (l : List ℕ) → T (all_digits l) → Each Plain l
unfolding all_digits is_digit
digits_plain [] h = each_nil Plain
digits_plain (b ∷ l) h =
    let k = and_yes (leb 48 b && leb b 57) (all_digits l) h in
    let low = leb→le 48 b (and_yes (leb 48 b) (leb b 57) k.0).0 in
    each_cons Plain b l (omega arith) (digits_plain l k.1)

decimal_plain : (n : ℕ) → Each Plain (decimal n)
decimal_plain n x m = let h = decimal_digits n x m in omega arith

-- a name begins with a letter
name_letter : (letters b : ℕ) (l : List ℕ) → T (is_name letters (b ∷ l)) → (letters ≤ b) × T (all_digits l)
unfolding is_name
name_letter letters b l h =
    let k = and_yes (leb letters b && ltb b (letters + 26)) _ h in (
      leb→le letters b (and_yes (leb letters b) (ltb b (letters + 26)) k.0).0,
      (and_yes (all_digits l) (leb (length l) 3) k.1).0,
    )

name_plain : (letters : ℕ) (l : List ℕ) → comma < letters → T (is_name letters l) → Each Plain l
unfolding is_name
name_plain letters [] low h = absurd h
name_plain letters (b ∷ l) low h =
    let k = name_letter letters b l h in each_cons Plain b l (omega arith) (digits_plain l k.1)

-- ---- names

pub name_free : (b letters : ℕ) (x : Name) → b ≤ comma → comma < letters → T (is_name letters x) → Free b x
name_free b letters x low high h = plain_free b x low (name_plain letters x high h)

pub name_iff : (letters : ℕ) (f : List ℕ) (x : Name) → (name_of letters f ≡ some x) ↔ (T (is_name letters x) × (f ≡ x))
unfolding name_of
name_iff letters f x = (go (is_name letters f) (λ t. t), λ r. rw (r.1, is_true (is_name letters x) r.0))
  where
    go : (t : Bool) → (T t → T (is_name letters f)) → cond t (some f) none ≡ some x → T (is_name letters x) × (f ≡ x)
    go true q e =
        let same = some-injective f x e in (subst (λ (l : List ℕ). T (is_name letters l)) same (q tt), same)
    go false q e = absurd (none-ne-some x e)

-- ---- terms

-- no numeral is a name
not_name : (n : ℕ) → T (is_name lower (decimal n)) → ⊥
unfolding is_name
not_name n = go (decimal n) (λ x m. (decimal_digits n x m).1)
  where
    go : (l : List ℕ) → Each (◌≤ 57) l → T (is_name lower l) → ⊥
    go [] h t = t
    go (b ∷ l) h t = let k = (name_letter lower b l t).0 in omega (arith, h b (Memᴰ.head refl))

arg_iff : (f : List ℕ) (t : Arg) → (arg_of f ≡ some t) ↔ (ArgFormed t × (f ≡ arg_text t))
unfolding arg_of arg_text mapped
arg_iff f t = (to (is_name lower f) (λ h. h), from t)
  where
    to : (b : Bool) → (T b → T (is_name lower f)) → cond b (some (variable f)) (mapped number (numeral f)) ≡ some t
        → ArgFormed t × (f ≡ arg_text t)
    to true q e = subst (λ (u : Arg). ArgFormed u × (f ≡ arg_text u)) (some-injective (variable f) t e) (q tt, refl)
    to false q e =
        let (n, r, is) = mapped_some number (numeral f) t e in
        subst (λ (u : Arg). ArgFormed u × (f ≡ arg_text u)) is ((numeral_iff f n).0 r)

    from : (u : Arg) → ArgFormed u × (f ≡ arg_text u) → cond (is_name lower f) (some (variable f)) (mapped number (numeral f)) ≡ some u
    from (variable x) (h, e) = rw (e, is_true (is_name lower x) h)
    from (number c) (h, e) =
        rw (e, is_false (is_name lower (decimal c)) (not_T (is_name lower (decimal c)) (not_name c)), (numeral_iff (decimal c) c).1 (h, refl))

arg_plain : (t : Arg) → ArgFormed t → Each Plain (arg_text t)
unfolding arg_text
arg_plain (variable x) h = name_plain lower x (omega arith) h
arg_plain (number c) h = decimal_plain c

args_iff : (l : List ℕ) (ts : List Arg)
    → (args_of l ≡ some ts) ↔ ((1 ≤ length ts) × Each ArgFormed ts × (l ≡ bytes "(" ++ listed (map arg_text ts)))
unfolding args_of
args_iff = listed_iff arg_of arg_text ArgFormed arg_iff (λ t h. plain_free comma (arg_text t) (omega arith) (arg_plain t h))

-- ---- atoms

-- an atom without the bracket that closes it
unfoldable pub open_atom : Atom → List ℕ
unfolding bytes decimal listed arg_text
open_atom a = bytes "T" ++ decimal a.table ++ bytes "(" ++ listed (map arg_text a.args)

-- the table's numeral stands before the first bracket, the terms from there on
atom_to : (l : List ℕ) (a : Atom) → atom_of l ≡ some a → AtomFormed a × (l ≡ open_atom a)
unfolding atom_of open_atom
atom_to l a e =
    let n = before opening l in
    let (t, ts, first, args, is) =
    both_some (λ t ts. record { table = t; args = ts }) (onto numeral (behind (bytes "T") (take n l))) (args_of (drop n l)) a e in
    let (f, led, reads) = onto_some numeral (behind (bytes "T") (take n l)) t first in
    let (sayable, digits) = (numeral_iff f t).0 reads in
    let (terms, formed, opens) = (args_iff (drop n l) ts).0 args in
    let table : take n l ≡ bytes "T" ++ decimal t
    = (behind_iff (bytes "T") (take n l) f).0 led ∙ ap (λ (m : List ℕ). bytes "T" ++ m) digits in
    subst (λ (b : Atom). AtomFormed b × (l ≡ open_atom b)) is (
      record { table = sayable; terms = terms; args = formed },
      sym (take-append-drop n l) ∙ ap₂ {C = List ℕ} ◌++◌ table opens
          ∙ sym (append_assoc (bytes "T" ++ decimal t) (bytes "(") (listed (map arg_text ts))),
    )

atom_from : (l : List ℕ) (a : Atom) → AtomFormed a → l ≡ open_atom a → atom_of l ≡ some a
unfolding atom_of open_atom both onto all bytes
atom_from l a h e =
    let table = bytes "T" ++ decimal a.table in
    let terms = listed (map arg_text a.args) in
    let no_bracket : Free opening table
    = each_append _ (bytes "T") (decimal a.table) (free opening (bytes "T") tt)
    (plain_free opening (decimal a.table) (omega arith) (decimal_plain a.table)) in
    let (first, rest) = opened l table terms no_bracket (e ∙ append_assoc table (bytes "(") terms) in
    let digits = (behind_iff (bytes "T") (take (before opening l) l) (decimal a.table)).1 first in
    ap₂ (both (λ t ts. record { table = t; args = ts }))
    (ap (onto numeral) digits ∙ (numeral_iff (decimal a.table) a.table).1 (h.table, refl))
    ((args_iff (drop (before opening l) l) a.args).1 (h.terms, h.args, rest))

pub atom_iff : (l : List ℕ) (a : Atom) → (atom_of l ≡ some a) ↔ (AtomFormed a × (l ≡ open_atom a))
atom_iff l a = (atom_to l a, λ r. atom_from l a r.0 r.1)

pub atom_free : (a : Atom) → AtomFormed a → Free closing (open_atom a)
unfolding open_atom all bytes
atom_free a h =
    each_append _ (bytes "T" ++ decimal a.table ++ bytes "(") (listed (map arg_text a.args))
    (each_append _ (bytes "T" ++ decimal a.table) (bytes "(")
    (each_append _ (bytes "T") (decimal a.table) (free closing (bytes "T") tt)
    (plain_free closing (decimal a.table) (omega arith) (decimal_plain a.table))) (free closing (bytes "(") tt))
    (listed_free closing (map arg_text a.args) (free closing (bytes ", ") tt)
    (each_map (Free closing) arg_text a.args (λ t m. plain_free closing (arg_text t) (omega arith) (arg_plain t (h.args t m)))))
