-- What turns a line back is the number of one of its checks.
use mathlib.Core.Path.{◌≡◌, refl, sym, subst}
use mathlib.Core.Bool.{Bool, true, false, cond}
use mathlib.Core.Logic.{⊎_elim}
use mathlib.Core.List.Memᴰ
use mathlib.Core.List.{List, [], ◌∷◌, ◌++◌}
use Prim.Native.Nat.{ℕ, suc}
use native.Mathlib.Nat.{suc-ne-zero}
use native.Mathlib.Omega.{arith}
use lib.Dec.{T, eqb, eqb→eq, ltb, ltb→lt}
use Rattle.theory.specs.Query.{◌∈◌}
use Rattle.theory.specs.Executable.Test.{all, any}
use Rattle.theory.proofs.Executable.Test.{and_iff, any_iff}
use Rattle.words.proofs.Answers.{either}
use Rattle.model.specs.Checks.{Check, first_fault}

-- a number that is found in a list stands in it
pub found_in : (ns : List ℕ) (n : ℕ) → T (any (eqb n) ns) → n ∈ ns
found_in ns n h =
    let (m, i, e) = (any_iff (eqb n) ns).0 h in subst (λ (x : ℕ). x ∈ ns) (sym (eqb→eq n m e)) i

-- checks whose numbers stand in a list give one of them, or 0
pub first_fault_lem : (ns : List ℕ) (cs : List Check) → T (all (λ c. any (eqb c.number) ns) cs) → first_fault cs ∈ 0 ∷ ns
unfolding first_fault all
first_fault_lem ns [] h = Memᴰ.head refl
first_fault_lem ns (c ∷ cs) h =
    let (here, rest) = (and_iff (any (eqb c.number) ns) _).0 h in
    either (λ n. n ∈ 0 ∷ ns) c.broken (Memᴰ.tail (found_in ns c.number here)) (first_fault_lem ns cs rest)

-- which is a fault where it is not 0
pub a_fault : (ns : List ℕ) (n : ℕ) → suc n ∈ 0 ∷ ns → suc n ∈ ns
a_fault ns n i = ⊎_elim (λ e. absurd (suc-ne-zero n e)) (λ j. j) (Memᴰ.cases_cons i)

-- ---- checks behind others

-- what the first checks turn back counts
pub fault_before : (cs ds : List Check) → (first_fault cs ≡ 0 → ⊥) → first_fault cs ≡ first_fault (cs ++ ds)
unfolding first_fault
fault_before [] ds f = absurd (f refl)
fault_before (c ∷ cs) ds f = go c.broken f (fault_before cs ds)
  where
    go : (t : Bool) → (cond t c.number (first_fault cs) ≡ 0 → ⊥)
        → ((first_fault cs ≡ 0 → ⊥) → first_fault cs ≡ first_fault (cs ++ ds))
        → cond t c.number (first_fault cs) ≡ cond t c.number (first_fault (cs ++ ds))
    go true f ih = refl
    go false f ih = ih f

-- what they let pass goes to the others: no check has the number 0
pub fault_behind : (cs ds : List Check) → T (all (λ c. ltb 0 c.number) cs) → first_fault cs ≡ 0 → first_fault ds ≡ first_fault (cs ++ ds)
unfolding first_fault all
fault_behind [] ds h e = refl
fault_behind (c ∷ cs) ds h e =
    let (here, rest) = (and_iff (ltb 0 c.number) _).0 h in go c.broken here e (fault_behind cs ds rest)
  where
    go : (t : Bool) → T (ltb 0 c.number) → cond t c.number (first_fault cs) ≡ 0
        → (first_fault cs ≡ 0 → first_fault ds ≡ first_fault (cs ++ ds))
        → first_fault ds ≡ cond t c.number (first_fault (cs ++ ds))
    go true k e ih = absurd (omega (arith, ltb→lt 0 c.number k))
    go false k e ih = ih e
