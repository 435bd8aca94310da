-- The shown variables of the query that a rule becomes are the head's, each with a number of its own.
use mathlib.Core.Path.{◌≡◌, refl, sym, ap, subst, ◌∙◌}
use mathlib.Core.Bool.{Bool, true, false, cond, not}
use mathlib.Core.Logic.{◌↔◌, ◌⊎◌, inl, inr, ⊎_elim}
use mathlib.Core.List.Memᴰ
use mathlib.Core.List.{List, [], ◌∷◌, ◌++◌}
use Prim.Native.Nat.{ℕ}
use lib.Ieee.Bits.{is_true}
use mir.Facts.{T_not-not}
use Rattle.theory.specs.Query.{shown, hidden, Line, ◌∈◌}
use Rattle.theory.specs.Executable.Test.{all}
use Rattle.theory.proofs.Executable.Test.{all_iff}
use Rattle.model.specs.Checks.{first_fault}
use Rattle.model.proofs.Limits.{no_fault}
use Rattle.model.proofs.FirstFault.{fault_behind}
use Rattle.rules.specs.Rule.{Name, Arg, variable, number, Atom, Rule}
use Rattle.rules.specs.Numbering.{body_args, stands, firsts, names, number_of, term_of, line_of, query_of}
use Rattle.rules.specs.Checks.{body_checks, head_checks, rule_fault}
use Rattle.rules.proofs.Names.{stands_iff, place_one}
use Rattle.rules.proofs.Checked.{body_clear}
use Rattle.rules.proofs.WellRead.{shown_of}

-- ---- the names of the body stand in it

firsts_from : (l : List Arg) (seen : List Name) (x : Name) → x ∈ firsts seen l → (x ∈ seen) ⊎ (variable x ∈ l)
unfolding firsts
firsts_from [] seen x m = inl m
firsts_from (number c ∷ l) seen x m = ⊎_elim inl (λ k. inr (Memᴰ.tail k)) (firsts_from l seen x m)
firsts_from (variable y ∷ l) seen x m =
    ⊎_elim (go (stands y seen)) (λ k. inr (Memᴰ.tail k)) (firsts_from l (cond (stands y seen) seen (seen ++ y ∷ [])) x m)
  where
    go : (b : Bool) → x ∈ cond b seen (seen ++ y ∷ []) → (x ∈ seen) ⊎ (variable x ∈ variable y ∷ l)
    go true k = inl k
    go false k = ⊎_elim inl (λ i. inr (Memᴰ.head (ap variable (Memᴰ.eq_of_singleton i)))) (Memᴰ.append_cases seen k)

args_from : (l : List Atom) (t : Arg) → t ∈ body_args l → (a : Atom) × (a ∈ l) × (t ∈ a.args)
unfolding body_args
args_from [] t m = absurd (Memᴰ.not-nil m)
args_from (b ∷ l) t m =
    ⊎_elim (λ k. (b, Memᴰ.head refl, k)) (λ k. let (a, i, j) = args_from l t k in (a, Memᴰ.tail i, j))
    (Memᴰ.append_cases b.args m)

name_in_body : (r : Rule) (x : Name) → x ∈ names r → (a : Atom) × (a ∈ r.body) × (variable x ∈ a.args)
unfolding names
name_in_body r x m =
    args_from r.body (variable x) (⊎_elim (λ k. absurd (Memᴰ.not-nil k)) (λ k. k) (firsts_from (body_args r.body) [] x m))

-- ---- a rule without fault

module _ (widths : List ℕ) (r : Rule) (clear : rule_fault widths r ≡ 0) where
  -- the body has every variable of the head (11)
  head_named : (y : Name) → y ∈ r.head → y ∈ names r
  unfolding rule_fault first_fault query_of all
  head_named y m =
      let heads = fault_behind (body_checks widths r.body (query_of r)) (head_checks r) tt (body_clear widths r clear) ∙ clear in
      let (lacks, rest) = no_fault (not (all (λ x. stands x (names r)) r.head)) 10 _ heads in
      let each = (all_iff (λ x. stands x (names r)) r.head).0 (T_not-not (all (λ x. stands x (names r)) r.head) lacks) in
      (stands_iff y (names r)).0 (each y m)

  pub numbers_apart : (y z : Name) → y ∈ r.head → z ∈ r.head → number_of r y ≡ number_of r z → y ≡ z
  unfolding number_of
  numbers_apart y z m k e = place_one (names r) y z (head_named y m) (head_named z k) e

  pub head_shown : (n : ℕ)
      → ((A : Line) × (A ∈ query_of r) × (shown n ∈ A.columns)) ↔ ((y : Name) × (y ∈ r.head) × (number_of r y ≡ n))
  unfolding query_of line_of term_of
  head_shown n = (
    (λ (A, m, k).
        let (a, i, e) = Memᴰ.of_map (line_of (term_of r)) r.body m in
        let (t, j, q) = Memᴰ.of_map (term_of r) a.args (subst (λ (B : Line). shown n ∈ B.columns) (sym e) k) in
        let (y, is, in_head, has) = shown_of r t n q in
        (y, in_head, has)),
    λ (y, m, e).
        let (a, i, j) = name_in_body r y (head_named y m) in
        let term : term_of r (variable y) ≡ shown n =
        ap (λ (b : Bool). cond b (shown (number_of r y)) (hidden (number_of r y)))
        (is_true (stands y r.head) ((stands_iff y r.head).1 m))
        ∙ ap shown e in
        (line_of (term_of r) a, Memᴰ.map (line_of (term_of r)) i, Memᴰ.cast (sym term) (Memᴰ.map (term_of r) j)),
  )
