-- Names and their keys: what is asked of the names of a rule is asked of their keys, and the keys of a body are those of its names.
use mathlib.Core.Path.{◌≡◌, refl, sym, ap, ap₂, ◌∙◌}
use mathlib.Core.Bool.{Bool, true, false, cond, ◌||◌}
use mathlib.Core.List.Memᴰ
use mathlib.Core.List.{List, [], ◌∷◌, ◌++◌, map, map-append}
use Prim.Native.Nat.{ℕ, zero, suc, ◌-◌, ◌≤◌}
use lib.Dec.{T, eqb, lit<}
use lib.ListN.{length, replicate, length-map}
use Rattle.theory.specs.Query.{◌∈◌}
use Rattle.theory.specs.Executable.Test.{any, all, kind}
use Rattle.theory.specs.Executable.Test.{number as number_in}
use Rattle.theory.proofs.Executable.Test.{all_same}
use Rattle.text.specs.Lines.{before, same_bytes}
use Rattle.text.proofs.Each.{Each, each_nil, each_append, each_last}
use Rattle.model.specs.Limits.{most_columns}
use Rattle.model.specs.Value.{pad, unused_term, term_value, line_value}
use Rattle.model.proofs.Terms.{terms_few}
use Rattle.rules.specs.Rule.{Name, Arg, variable, number, Atom, Rule}
use Rattle.rules.specs.Text.{is_name, lower}
use Rattle.rules.specs.Numbering.{body_args, stands, firsts, names, place_of, line_of}
use Rattle.rules.specs.Checks.{repeats}
use Rattle.rules.specs.Formed.{ArgFormed, Formed}
use Rattle.rule_text.specs.Keys.{key, keyed}
use Rattle.rule_text.proofs.Keys.{same_key}
use Rattle.rule_body.specs.Body.{keyed_lines}
use Rattle.rule_body.specs.Head.{repeats_key}
use Rattle.numbering.specs.Names.{is_key, entered, keys_in, keys_of}
use Rattle.numbering.proofs.Search.{eqb_sym}

-- each of these is a name of a variable
abbrev pub AreNames : List Name → Type 0
AreNames l = Each (λ x. T (is_name lower x)) l

-- each term of the atoms can be said
abbrev pub ArgsFormed : List Atom → Type 0
ArgsFormed atoms = (a : Atom) → a ∈ atoms → (t : Arg) → t ∈ a.args → ArgFormed t

-- no atom has more terms than a line has places
abbrev pub FewTerms : List Atom → Type 0
FewTerms atoms = (a : Atom) → a ∈ atoms → length a.args ≤ most_columns

-- ---- one name among others

one_key : (x y : Name) → T (is_name lower x) → T (is_name lower y) → eqb (key x) (key y) ≡ same_bytes x y
one_key x y h k = same_key lower (lit< tt) (lit< tt) x y h k

module _ (x : Name) where
  pub is_key_lem : (l : List Name) → T (is_name lower x) → AreNames l → is_key (key x) (map key l) ≡ stands x l
  unfolding is_key stands any
  is_key_lem [] h hs = refl
  is_key_lem (y ∷ l) h hs =
      ap₂ {C = Bool} ◌||◌ (one_key x y h (hs y (Memᴰ.head refl))) (is_key_lem l h (λ z m. hs z (Memᴰ.tail m)))

  pub key_place : (l : List Name) → T (is_name lower x) → AreNames l → before (key x) (map key l) ≡ place_of x l
  unfolding before place_of
  key_place [] h hs = refl
  key_place (y ∷ l) h hs =
      ap₂ {C = ℕ} (λ (b : Bool) (n : ℕ). cond b 0 (suc n)) (eqb_sym (key y) (key x) ∙ one_key x y h (hs y (Memᴰ.head refl)))
      (key_place l h (λ z m. hs z (Memᴰ.tail m)))

pub key_repeats : (l : List Name) → AreNames l → repeats_key (map key l) ≡ repeats l
unfolding repeats_key repeats
key_repeats [] hs = refl
key_repeats (x ∷ l) hs =
    let rest : AreNames l = λ z m. hs z (Memᴰ.tail m) in
    ap₂ {C = Bool} ◌||◌ (is_key_lem x l (hs x (Memᴰ.head refl)) rest) (key_repeats l rest)

pub all_keys : (xs l : List Name) → AreNames xs → AreNames l
    → all (λ x. is_key (key x) (map key l)) xs ≡ all (λ x. stands x l) xs
all_keys xs l h hs = all_same (λ x. is_key (key x) (map key l)) (λ x. stands x l) xs (λ x m. is_key_lem x l (h x m) hs)

-- ---- the names of terms

-- the names seen and one more, where it is new
abbrev with_name : List Name → Name → List Name
with_name seen x = cond (stands x seen) seen (seen ++ x ∷ [])

with_name_lem : (seen : List Name) (x : Name) → AreNames seen → T (is_name lower x) → AreNames (with_name seen x)
with_name_lem seen x hs h = go (stands x seen)
  where
    go : (b : Bool) → AreNames (cond b seen (seen ++ x ∷ []))
    go true = hs
    go false = each_last (λ y. T (is_name lower y)) seen x hs h

first_names : (l : List Arg) (seen : List Name) → Each ArgFormed l → AreNames seen → AreNames (firsts seen l)
unfolding firsts
first_names [] seen hs h = h
first_names (number c ∷ l) seen hs h = first_names l seen (λ t m. hs t (Memᴰ.tail m)) h
first_names (variable x ∷ l) seen hs h =
    first_names l (with_name seen x) (λ t m. hs t (Memᴰ.tail m)) (with_name_lem seen x h (hs (variable x) (Memᴰ.head refl)))

firsts_append : (k l : List Arg) (seen : List Name) → firsts seen (k ++ l) ≡ firsts (firsts seen k) l
unfolding firsts
firsts_append [] l seen = refl
firsts_append (number c ∷ k) l seen = firsts_append k l seen
firsts_append (variable x ∷ k) l seen = firsts_append k l (with_name seen x)

-- ---- the keys of terms

key_entered : (seen : List Name) (x : Name) → T (is_name lower x) → AreNames seen
    → entered (map key seen) (key x) ≡ map key (with_name seen x)
unfolding entered
key_entered seen x h hs = rw (is_key_lem x seen h hs) (go (stands x seen))
  where
    go : (b : Bool) → cond b (map key seen) (map key seen ++ key x ∷ []) ≡ map key (cond b seen (seen ++ x ∷ []))
    go true = refl
    go false = rw map-append

-- unused terms have none
keys_unused : (n : ℕ) (seen : List ℕ) → keys_in seen (replicate n unused_term) ≡ seen
unfolding keys_in unused_term
keys_unused zero seen = refl
keys_unused (suc n) seen = keys_unused n seen

keys_args : (n : ℕ) (l : List Arg) (seen : List Name) → Each ArgFormed l → AreNames seen
    → keys_in (map key seen) (map term_value (map keyed l) ++ replicate n unused_term) ≡ map key (firsts seen l)
unfolding keys_in term_value kind number_in keyed firsts
keys_args n [] seen hs h = keys_unused n (map key seen)
keys_args n (number c ∷ l) seen hs h = keys_args n l seen (λ t m. hs t (Memᴰ.tail m)) h
keys_args n (variable x ∷ l) seen hs h =
    let name : T (is_name lower x) = hs (variable x) (Memᴰ.head refl) in
    ap (λ (k : List ℕ). keys_in k (map term_value (map keyed l) ++ replicate n unused_term)) (key_entered seen x name h)
    ∙ keys_args n l (with_name seen x) (λ t m. hs t (Memᴰ.tail m)) (with_name_lem seen x h name)

keys_atom : (a : Atom) (seen : List Name) → Each ArgFormed a.args → length a.args ≤ most_columns → AreNames seen
    → keys_in (map key seen) (line_value (line_of keyed a)).terms ≡ map key (firsts seen a.args)
unfolding line_value line_of pad
keys_atom a seen hs few h =
    rw (terms_few (map keyed a.args) (rw (length-map a.args keyed) few))
    (keys_args (most_columns - length (map term_value (map keyed a.args))) a.args seen hs h)

-- ---- the names of a body

-- behind names that were seen before
keys_after : (atoms : List Atom) (seen : List Name) → ArgsFormed atoms → FewTerms atoms → AreNames seen
    → keys_of (map key seen) (map line_value (keyed_lines atoms)) ≡ map key (firsts seen (body_args atoms))
unfolding keys_of keyed_lines body_args firsts
keys_after [] seen hs few h = refl
keys_after (a ∷ l) seen hs few h =
    let args = hs a (Memᴰ.head refl) in
    ap (λ (k : List ℕ). keys_of k (map line_value (keyed_lines l))) (keys_atom a seen args (few a (Memᴰ.head refl)) h)
    ∙ keys_after l (firsts seen a.args) (λ b m. hs b (Memᴰ.tail m)) (λ b m. few b (Memᴰ.tail m))
    (first_names a.args seen args h)
    ∙ ap (map key) (sym (firsts_append a.args (body_args l) seen))

pub keys_are : (atoms : List Atom) → ArgsFormed atoms → FewTerms atoms
    → keys_of [] (map line_value (keyed_lines atoms)) ≡ map key (firsts [] (body_args atoms))
keys_are atoms hs few = keys_after atoms [] hs few (each_nil (λ x. T (is_name lower x)))

args_formed : (atoms : List Atom) → ArgsFormed atoms → Each ArgFormed (body_args atoms)
unfolding body_args
args_formed [] hs = each_nil ArgFormed
args_formed (a ∷ l) hs =
    each_append ArgFormed a.args (body_args l) (hs a (Memᴰ.head refl)) (args_formed l (λ b m. hs b (Memᴰ.tail m)))

pub names_formed : (r : Rule) → Formed r → AreNames (names r)
unfolding names
names_formed r f =
    first_names (body_args r.body) [] (args_formed r.body (λ a m. (f.body a m).args)) (each_nil (λ x. T (is_name lower x)))
