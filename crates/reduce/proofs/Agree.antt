-- What it says that one map can send two lines to two targets.
use mathlib.Core.Path.{◌≡◌, sym}
use mathlib.Core.Logic.{◌↔◌}
use mathlib.Core.Bool.{◌&&◌}
use mathlib.Core.List.{zip}
use lib.Dec.{T, eqb}
use lib.ListN.{length}
use mir.Facts.{eqb_yes, yes_eqb}
use Rattle.theory.specs.Query.{Term, Line, ◌∈◌}
use Rattle.theory.specs.Executable.Test.{all}
use Rattle.theory.specs.Executable.Reduce.{keeps, agrees}
use Rattle.theory.proofs.Executable.Test.{and_iff, all_iff}
use Rattle.theory.proofs.Executable.Reduce.{agrees_iff}
use Rattle.entering.specs.Agree.{goes, agree}

-- equal terms in the columns of A and B stand over equal terms
abbrev pub Joint : Line → Line → Line → Line → Type 0
Joint A S B D =
    (y : Term × Term) → y ∈ zip A.columns S.columns → (z : Term × Term) → z ∈ zip B.columns D.columns
    → T (agrees y z)

pub joint_iff : (A S B D : Line)
    → T (all (λ y. all (agrees y) (zip B.columns D.columns)) (zip A.columns S.columns)) ↔ Joint A S B D
joint_iff A S B D =
    let zs = zip B.columns D.columns in
    let a = all_iff (λ y. all (agrees y) zs) (zip A.columns S.columns) in
    (λ h y i z j. (all_iff (agrees y) zs).0 (a.0 h y i) z j, λ h. a.1 (λ y i. (all_iff (agrees y) zs).1 (h y i)))

pub record Goes (A S : Line) : Type 0 where
  pub table : A.table ≡ S.table
  pub width : length A.columns ≡ length S.columns
  pub kept : (z : Term × Term) → z ∈ zip A.columns S.columns → T (keeps z)

pub goes_iff : (A S : Line) → T (goes A S) ↔ Goes A S
unfolding goes
goes_iff A S =
    let t = eqb A.table S.table in
    let w = eqb (length A.columns) (length S.columns) in
    let z = all keeps (zip A.columns S.columns) in
    let a = all_iff keeps (zip A.columns S.columns) in (
      λ h.
          let (x, r) = (and_iff t (w && z)).0 h in
          let (y, s) = (and_iff w z).0 r in record { table = eqb_yes x; width = eqb_yes y; kept = a.0 s },
      λ g. (and_iff t (w && z)).1 (yes_eqb g.table, (and_iff w z).1 (yes_eqb g.width, a.1 g.kept)),
    )

pub agree_iff : (A S B D : Line) → T (agree A S B D) ↔ (Goes A S × Goes B D × Joint A S B D)
unfolding agree
agree_iff A S B D =
    let j = all (λ y. all (agrees y) (zip B.columns D.columns)) (zip A.columns S.columns) in (
      λ h.
          let (x, r) = (and_iff (goes A S) (goes B D && j)).0 h in
          let (y, s) = (and_iff (goes B D) j).0 r in ((goes_iff A S).0 x, (goes_iff B D).0 y, (joint_iff A S B D).0 s),
      λ r. (and_iff (goes A S) (goes B D && j)).1
          ((goes_iff A S).1 r.0, (and_iff (goes B D) j).1 ((goes_iff B D).1 r.1, (joint_iff A S B D).1 r.2)),
    )

pub agree_swap : (A S B D : Line) → T (agree A S B D) → T (agree B D A S)
agree_swap A S B D h =
    let (x, y, j) = (agree_iff A S B D).0 h in
    (agree_iff B D A S).1 (y, x, λ z i w k. (agrees_iff z w).1 (λ e. sym ((agrees_iff w z).0 (j w k z i) (sym e))))
