-- Names of a rule: which of them stand in its body, and that each has a place of its own there.
use mathlib.Core.Path.{◌≡◌, refl, sym, ap, ◌∙◌, subst}
use mathlib.Core.Logic.{◌↔◌, ⊎_elim}
use mathlib.Core.Bool.{Bool, true, false, cond}
use mathlib.Core.List.Memᴰ
use mathlib.Core.List.{List, [], ◌∷◌, ◌++◌}
use Prim.Native.Nat.{ℕ, suc, ◌<◌, zero-le, suc-le-suc}
use lib.Dec.{T}
use lib.ListN.{length, get_or}
use Rattle.theory.specs.Query.{◌∈◌}
use Rattle.theory.proofs.Executable.Test.{any_iff}
use Rattle.text.specs.Lines.{same_bytes}
use Rattle.text.proofs.Names.{same_bytes_iff}
use Rattle.rules.specs.Rule.{Name, Arg, variable, number, Atom, Rule}
use Rattle.rules.specs.Numbering.{body_args, stands, firsts, names, place_of, number_of}

-- ---- standing in a list

pub stands_iff : (x : Name) (l : List Name) → T (stands x l) ↔ (x ∈ l)
unfolding stands
stands_iff x l = (
  λ h. let (y, m, e) = (any_iff (same_bytes x) l).0 h in Memᴰ.cast ((same_bytes_iff x y).0 e) m,
  λ m. (any_iff (same_bytes x) l).1 (x, m, (same_bytes_iff x x).1 refl),
)

-- ---- the names of a body

-- the name that a term has, none where it is a constant
name_in : Arg → Name
name_in (variable x) = x
name_in (number c) = []

variable_one : (x y : Name) → variable x ≡ variable y → x ≡ y
unfolding name_in
variable_one x y e = ap name_in e

is_variable : Arg → Bool
is_variable (variable x) = true
is_variable (number c) = false

variable≢number : (x : Name) (c : ℕ) → variable x ≡ number c → ⊥
unfolding is_variable
variable≢number x c e = subst (λ (t : Arg). T (is_variable t)) e tt

-- names seen stay
firsts_keep : (l : List Arg) (seen : List Name) (x : Name) → x ∈ seen → x ∈ firsts seen l
unfolding firsts
firsts_keep [] seen x m = m
firsts_keep (number c ∷ l) seen x m = firsts_keep l seen x m
firsts_keep (variable y ∷ l) seen x m = firsts_keep l _ x (go (stands y seen))
  where
    go : (b : Bool) → x ∈ cond b seen (seen ++ y ∷ [])
    go true = m
    go false = Memᴰ.append_left (y ∷ []) m

-- names of the terms join them
firsts_of : (l : List Arg) (seen : List Name) (x : Name) → variable x ∈ l → x ∈ firsts seen l
unfolding firsts
firsts_of [] seen x m = absurd (Memᴰ.not-nil m)
firsts_of (number c ∷ l) seen x m =
    ⊎_elim (λ e. absurd (variable≢number x c e)) (λ t. firsts_of l seen x t) (Memᴰ.cases_cons m)
firsts_of (variable y ∷ l) seen x m =
    ⊎_elim (λ e. firsts_keep l _ x (go (stands y seen) refl (variable_one x y e))) (λ t. firsts_of l _ x t) (Memᴰ.cases_cons m)
  where
    go : (b : Bool) → stands y seen ≡ b → x ≡ y → x ∈ cond b seen (seen ++ y ∷ [])
    go true q e = Memᴰ.cast e ((stands_iff y seen).0 (subst T (sym q) tt))
    go false q e = Memᴰ.append_right seen (Memᴰ.head e)

args_of : (l : List Atom) (a : Atom) (t : Arg) → a ∈ l → t ∈ a.args → t ∈ body_args l
unfolding body_args
args_of [] a t m k = absurd (Memᴰ.not-nil m)
args_of (b ∷ l) a t m k =
    ⊎_elim (λ e. Memᴰ.append_left (body_args l) (subst (λ (c : Atom). t ∈ c.args) e k))
    (λ n. Memᴰ.append_right b.args (args_of l a t n k)) (Memᴰ.cases_cons m)

pub body_name : (r : Rule) (a : Atom) (x : Name) → a ∈ r.body → variable x ∈ a.args → x ∈ names r
unfolding names
body_name r a x m k = firsts_of (body_args r.body) [] x (args_of r.body a (variable x) m k)

-- ---- places

-- a name of the list that is not its first
not_first : (x y : Name) (l : List Name) → same_bytes x y ≡ false → x ∈ y ∷ l → x ∈ l
not_first x y l q m = ⊎_elim (λ e. absurd (subst T q ((same_bytes_iff x y).1 e))) (λ t. t) (Memᴰ.cases_cons m)

-- a name of the list stands at its place, whatever stands past the end
pub place_is : (l : List Name) (x : Name) → x ∈ l → get_or l (place_of x l) [] ≡ x
unfolding place_of
place_is [] x m = absurd (Memᴰ.not-nil m)
place_is (y ∷ l) x m = go (same_bytes x y) refl (place_is l x)
  where
    go : (b : Bool) → same_bytes x y ≡ b → (x ∈ l → get_or l (place_of x l) [] ≡ x) → get_or (y ∷ l) (cond b 0 (suc (place_of x l))) [] ≡ x
    go true q later = sym ((same_bytes_iff x y).0 (subst T (sym q) tt))
    go false q later = later (not_first x y l q m)

pub place_below : (l : List Name) (x : Name) → x ∈ l → place_of x l < length l
unfolding place_of
place_below [] x m = absurd (Memᴰ.not-nil m)
place_below (y ∷ l) x m = go (same_bytes x y) refl (place_below l x)
  where
    go : (b : Bool) → same_bytes x y ≡ b → (x ∈ l → place_of x l < length l) → cond b 0 (suc (place_of x l)) < suc (length l)
    go true q later = suc-le-suc zero-le
    go false q later = suc-le-suc (later (not_first x y l q m))

-- two names of the list at one place are one
pub place_one : (l : List Name) (x y : Name) → x ∈ l → y ∈ l → place_of x l ≡ place_of y l → x ≡ y
place_one l x y m k e = sym (place_is l x m) ∙ ap (λ (n : ℕ). get_or l n []) e ∙ place_is l y k

-- the name of a number, where the body has it
pub number_is : (r : Rule) (a : Atom) (x : Name) → a ∈ r.body → variable x ∈ a.args → get_or (names r) (number_of r x) [] ≡ x
unfolding number_of
number_is r a x m k = place_is (names r) x (body_name r a x m k)
