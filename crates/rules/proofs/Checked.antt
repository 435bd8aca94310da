-- What the checks 7, 2, 4 and 5 leave of a body, whatever its terms become.
use mathlib.Core.Path.{◌≡◌, refl, sym, subst, ◌∙◌}
use mathlib.Core.Logic.{◌↔◌}
use mathlib.Core.Bool.{Bool, cond, not}
use mathlib.Core.List.Memᴰ
use mathlib.Core.List.{List, map}
use Prim.Native.Nat.{ℕ, suc, ◌≤◌}
use native.Mathlib.Decide.{ℕ_discrete}
use lib.Dec.{T, ltb, nltb→le, leb→le, eqb→eq}
use lib.ListN.{length, length-map}
use mir.Facts.{T_not-not}
use Rattle.theory.specs.Query.{Term, Line, ◌∈◌}
use Rattle.theory.specs.Archive.{AllFit}
use Rattle.theory.specs.Executable.Test.{all}
use Rattle.theory.proofs.Executable.Test.{all_iff, all_map, all_same}
use Rattle.model.specs.Limits.{most_tables, most_columns, most_lines, up_to}
use Rattle.model.specs.Checks.{known, wide, first_fault}
use Rattle.model.proofs.FirstFault.{fault_before}
use Rattle.model.proofs.Limits.{no_fault, up_to_iff, within_iff}
use Rattle.model.proofs.Values.{width_is}
use Rattle.rules.specs.Rule.{Arg, Atom, Rule}
use Rattle.rules.specs.Numbering.{term_of, line_of, query_of}
use Rattle.rules.specs.Checks.{arg_within, atom_within, body_checks, head_checks, rule_fault}

-- the number of the first of them that turns the body back
abbrev pub body_fault_by : List ℕ → (Arg → Term) → List Atom → ℕ
body_fault_by widths f atoms = first_fault (body_checks widths atoms (map (line_of f) atoms))

-- ---- the checks look at the table and at how many terms there are

same_wide : (widths : List ℕ) (f g : Arg → Term) (a : Atom) → wide widths (line_of f a) ≡ wide widths (line_of g a)
unfolding wide line_of
same_wide widths f g a = rw (length-map a.args f, length-map a.args g)

-- a test that says the same of an atom whatever its terms become
module _ (f g : Arg → Term) (test : Line → Bool) (same : (a : Atom) → test (line_of f a) ≡ test (line_of g a)) where
  all_lines : (atoms : List Atom) → all test (map (line_of f) atoms) ≡ all test (map (line_of g) atoms)
  all_lines atoms =
      all_map test (line_of f) atoms ∙ all_same (λ a. test (line_of f a)) (λ a. test (line_of g a)) atoms (λ a m. same a)
      ∙ sym (all_map test (line_of g) atoms)

pub same_fault : (widths : List ℕ) (f g : Arg → Term) (atoms : List Atom) → body_fault_by widths f atoms ≡ body_fault_by widths g atoms
unfolding first_fault known line_of
same_fault widths f g atoms =
    rw (all_lines f g (known widths) (λ a. refl) atoms, all_lines f g (wide widths) (same_wide widths f g) atoms)

-- ---- a body without fault

pub record BodyChecked (widths : List ℕ) (f : Arg → Term) (atoms : List Atom) : Type 0 where
  pub few : length atoms ≤ most_lines
  pub within : (a : Atom) → a ∈ atoms → T (atom_within a)
  pub fits : AllFit widths (map (line_of f) atoms)

-- a check that each of a list must pass
all_passed : {X : Type 0} (f : X → Bool) (l : List X) (n rest : ℕ) → cond (not (all f l)) (suc n) rest ≡ 0
    → ((x : X) → x ∈ l → T (f x)) × (rest ≡ 0)
all_passed f l n rest e = let k = no_fault (not (all f l)) n rest e in ((all_iff f l).0 (T_not-not (all f l) k.0), k.1)

-- the test of an atom's numbers is the statement that its table and its terms are within their limits
pub atom_within_iff : (a : Atom)
    → T (atom_within a) ↔ (((1 ≤ a.table) × (a.table ≤ most_tables)) × ((x : Arg) → x ∈ a.args → T (arg_within x)))
unfolding atom_within
atom_within_iff a = within_iff arg_within a.table a.args

pub body_checked : (widths : List ℕ) (f : Arg → Term) (atoms : List Atom) → body_fault_by widths f atoms ≡ 0 → BodyChecked widths f atoms
unfolding first_fault line_of known wide
body_checked widths f atoms e =
    let a = no_fault (ltb most_lines (length atoms)) 6 _ e in
    let b = all_passed atom_within atoms 1 _ a.1 in
    let c = all_passed (known widths) (map (line_of f) atoms) 3 _ b.1 in
    let d = all_passed (wide widths) (map (line_of f) atoms) 4 _ c.1 in
    record {
      few = nltb→le most_lines (length atoms) a.0;
      within = b.0;
      fits = λ A m.
          let (atom, i, q) = Memᴰ.of_map (line_of f) atoms m in
          record {
            first = subst (λ (B : Line). 1 ≤ B.table) q ((atom_within_iff atom).0 (b.0 atom i)).0.0;
            last = leb→le A.table (length widths) (c.0 A m);
            width = eqb→eq _ _ (d.0 A m);
          };
    }

-- a rule without fault has such a body
pub body_clear : (widths : List ℕ) (r : Rule) → rule_fault widths r ≡ 0 → body_fault_by widths (term_of r) r.body ≡ 0
unfolding rule_fault query_of
body_clear widths r e = go (ℕ_discrete (body_fault_by widths (term_of r) r.body) 0)
  where
    go : Dec (body_fault_by widths (term_of r) r.body ≡ 0) → body_fault_by widths (term_of r) r.body ≡ 0
    go (yes z) = z
    go (no n) = fault_before (body_checks widths r.body (query_of r)) (head_checks r) n ∙ e

pub rule_checked : (widths : List ℕ) (r : Rule) → rule_fault widths r ≡ 0 → BodyChecked widths (term_of r) r.body
rule_checked widths r e = body_checked widths (term_of r) r.body (body_clear widths r e)

-- ---- under tables of 1 to the most columns

pub narrow_atoms : (widths : List ℕ) → ((n : ℕ) → n ∈ widths → T (up_to most_columns n)) → {f : Arg → Term} {atoms : List Atom}
    → BodyChecked widths f atoms → (a : Atom) → a ∈ atoms → length a.args ≤ most_columns
unfolding line_of
narrow_atoms widths narrow {f} c a m =
    let fit = c.fits (line_of f a) (Memᴰ.map (line_of f) m) in
    rw (length-map a.args f) at
    ((up_to_iff most_columns _).0 (width_is (λ n. T (up_to most_columns n)) widths narrow (line_of f a) fit)).1
