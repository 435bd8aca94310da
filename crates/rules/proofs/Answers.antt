-- Request 3: the query that a rule becomes has the rule's answers.
use mathlib.Core.Path.{◌≡◌, refl, sym, ap, ap₂, ◌∙◌, subst}
use mathlib.Core.Logic.{◌↔◌}
use mathlib.Core.Bool.{Bool, true, false, cond}
use mathlib.Core.List.Memᴰ
use mathlib.Core.List.{List, [], ◌∷◌, map}
use Prim.Native.Nat.{ℕ}
use lib.Dec.{T}
use lib.ListN.{get_or}
use Rattle.theory.specs.Query.{shown, hidden, ◌∈◌}
use Rattle.theory.specs.Archive.{Archive, value, row, Answer}
use Rattle.theory.proofs.Tuples.{tuple_path}
use Rattle.rules.specs.Rule.{Name, Arg, variable, number, Atom, Rule}
use Rattle.rules.specs.Meaning.{arg_value, atom_row, RuleAnswer}
use Rattle.rules.specs.Numbering.{stands, names, number_of, term_of, line_of, query_of}
use Rattle.rules.proofs.Names.{stands_iff, number_is}

module _ (r : Rule) (s h : ℕ → ℕ) where
  -- the value that a name has as a term of the query
  abbrev named : Name → ℕ
  named x = value s h (term_of r (variable x))

  -- a name of the head has its value as a shown variable, any other as a hidden one
  by_mark : (x : Name) (y : ℕ) → (x ∈ r.head → s (number_of r x) ≡ y) → h (number_of r x) ≡ y → named x ≡ y
  unfolding term_of
  by_mark x y f g = go (stands x r.head) refl
    where
      go : (b : Bool) → stands x r.head ≡ b → value s h (cond b (shown (number_of r x)) (hidden (number_of r x))) ≡ y
      go true q = f ((stands_iff x r.head).0 (subst T (sym q) tt))
      go false q = g

  in_head : (x : Name) → x ∈ r.head → named x ≡ s (number_of r x)
  unfolding term_of
  in_head x m = go (stands x r.head) ((stands_iff x r.head).1 m)
    where
      go : (b : Bool) → T b → value s h (cond b (shown (number_of r x)) (hidden (number_of r x))) ≡ s (number_of r x)
      go true q = refl
      go false q = absurd q

  -- a valuation of names that gives those of an atom their values as terms makes it the row that its line becomes
  same_row : (w : Name → ℕ) (a : Atom) → ((x : Name) → variable x ∈ a.args → named x ≡ w x) → row s h (line_of (term_of r) a) ≡ atom_row w a
  unfolding line_of atom_row term_of arg_value
  same_row w a f = tuple_path refl (go a.args f)
    where
      one : (t : Arg) → ((x : Name) → variable x ≡ t → named x ≡ w x) → value s h (term_of r t) ≡ arg_value w t
      one (variable x) g = g x refl
      one (number c) g = refl

      go : (l : List Arg) → ((x : Name) → variable x ∈ l → named x ≡ w x) → map (value s h) (map (term_of r) l) ≡ map (arg_value w) l
      go [] g = refl
      go (t ∷ l) g = ap₂ {C = List ℕ} ◌∷◌ (one t (λ x e. g x (Memᴰ.head e))) (go l (λ x m. g x (Memᴰ.tail m)))

-- "The text written must have the rule's answers on every archive, values matched by variable and not by place in the head"
pub imported_answers : (r : Rule) (D : Archive) (u : Name → ℕ) (s : ℕ → ℕ) → ((x : Name) → x ∈ r.head → s (number_of r x) ≡ u x)
    → RuleAnswer r D u ↔ Answer (query_of r) D s
unfolding query_of
imported_answers r D u s heads = (
  λ (w, agree, rows).
      let h : ℕ → ℕ = λ n. w (get_or (names r) n []) in (
        h,
        λ A m.
            let (a, b, e) = Memᴰ.of_map (line_of (term_of r)) r.body m in
            Memᴰ.cast (ap (row s h) (sym e)
            ∙ same_row r s h w a (λ x k. by_mark r s h x (w x) (λ i. heads x i ∙ sym (agree x i)) (ap w (number_is r a x b k))))
            (rows a b),
      ),
  λ (h, rows). (
    named r s h,
    λ x m. in_head r s h x m ∙ heads x m,
    λ a m. Memᴰ.cast (sym (same_row r s h (named r s h) a (λ x k. refl))) (rows (line_of (term_of r) a) (Memᴰ.map (line_of (term_of r)) m)),
  ),
)
