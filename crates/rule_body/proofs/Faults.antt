-- What turns atoms back: with one atom more, the sooner of what turns the others back and what turns it back.
use mathlib.Core.Path.{◌≡◌, refl, sym, ap, ◌∙◌}
use mathlib.Core.Bool.{Bool, true, false, not, ◌&&◌, and-true}
use mathlib.Core.List.{List, [], ◌∷◌, ◌++◌, map-append}
use Prim.Native.Nat.{ℕ, zero, suc, min}
use native.Mathlib.Omega.{arith}
use lib.ListN.{length, length-map}
use Rattle.std.specs.Prelude.{Option, Some, None}
use Rattle.std.specs.Option.{unwrap_or}
use Rattle.std.proofs.lemmas.Option.{none-some}
use Rattle.theory.specs.Executable.Test.{all}
use Rattle.theory.proofs.Executable.Test.{all_more}
use Rattle.model.specs.Checks.{known, wide, first_fault, fitting_table}
use Rattle.rules.specs.Rule.{Atom as TheAtom}
use Rattle.rules.specs.Numbering.{line_of}
use Rattle.rules.specs.Checks.{atom_within}
use Rattle.rule_text.specs.Keys.{keyed}
use Rattle.rule_body.specs.Body.{keyed_lines, atoms_fault, fault_value, soonest}

-- ---- by whether each check is passed

abbrev fault_by : Bool → Bool → Bool → ℕ
fault_by a b c =
    first_fault (record { broken = not a; number = 2 } ∷ record { broken = not b; number = 4 } ∷ record { broken = not c; number = 5 } ∷ [])

-- both pass where each does
joined : (a b c x y z : Bool) → fault_value (fault_by (a && x) (b && y) (c && z)) ≡ soonest (fault_value (fault_by a b c)) (fault_value (fault_by x y z))
unfolding first_fault fault_value soonest
joined false b c false y z = refl
joined false b c true false z = refl
joined false b c true true false = refl
joined false b c true true true = refl
joined true false c false y z = refl
joined true false c true false z = refl
joined true false c true true false = refl
joined true false c true true true = refl
joined true true false false y z = refl
joined true true false true false z = refl
joined true true false true true false = refl
joined true true false true true true = refl
joined true true true false y z = refl
joined true true true true false z = refl
joined true true true true true false = refl
joined true true true true true true = refl

-- ---- the atoms

pub keyed_more : (atoms : List TheAtom) (x : TheAtom) → keyed_lines (atoms ++ x ∷ []) ≡ keyed_lines atoms ++ line_of keyed x ∷ []
unfolding keyed_lines
keyed_more atoms x = map-append (line_of keyed) atoms (x ∷ [])

pub keyed_length : (atoms : List TheAtom) → length (keyed_lines atoms) ≡ length atoms
unfolding keyed_lines
keyed_length atoms = length-map atoms (line_of keyed)

module _ (widths : List ℕ) where
  one : (x : TheAtom) → atoms_fault widths (x ∷ []) ≡ fault_by (atom_within x) (known widths (line_of keyed x)) (wide widths (line_of keyed x))
  unfolding atoms_fault all keyed_lines
  one x = rw (and-true (atom_within x), and-true (known widths (line_of keyed x)), and-true (wide widths (line_of keyed x)))

  pub faults_more : (atoms : List TheAtom) (x : TheAtom)
      → fault_value (atoms_fault widths (atoms ++ x ∷ [])) ≡ soonest (fault_value (atoms_fault widths atoms)) (fault_value (atoms_fault widths (x ∷ [])))
  unfolding atoms_fault
  faults_more atoms x =
      rw (
        keyed_more atoms x,
        all_more atom_within atoms x,
        all_more (known widths) (keyed_lines atoms) (line_of keyed x),
        all_more (wide widths) (keyed_lines atoms) (line_of keyed x),
        one x,
      )
      (joined (all atom_within atoms) (all (known widths) (keyed_lines atoms)) (all (wide widths) (keyed_lines atoms)) (atom_within x)
      (known widths (line_of keyed x)) (wide widths (line_of keyed x)))

  -- ---- one atom

  module _ (x : TheAtom) where
    pub fault_past : atom_within x ≡ false → 2 ≡ atoms_fault widths (x ∷ [])
    unfolding first_fault
    fault_past e = rw (one x, e)

    pub fault_within : atom_within x ≡ true → first_fault (fitting_table widths (line_of keyed x)) ≡ atoms_fault widths (x ∷ [])
    unfolding first_fault
    fault_within e = rw (one x, e)

    pub faultless_within : atoms_fault widths (x ∷ []) ≡ 0 → atom_within x ≡ true
    unfolding first_fault
    faultless_within e = go (atom_within x) (sym (one x) ∙ e)
      where
        go : (t : Bool) → fault_by t (known widths (line_of keyed x)) (wide widths (line_of keyed x)) ≡ 0 → t ≡ true
        go true z = refl
        go false z = absurd (omega (arith, z))

-- ---- a number as the code's value

pub some_fault : (n : ℕ) → (n ≡ 0 → ⊥) → Some n ≡ fault_value n
unfolding fault_value
some_fault zero f = absurd (f refl)
some_fault (suc n) f = refl

pub no_fault : (n : ℕ) → fault_value n ≡ None → n ≡ 0
unfolding fault_value
no_fault zero e = refl
no_fault (suc n) e = absurd (none-some (suc n) (sym e))

pub fault_some : (m n : ℕ) → Some n ≡ fault_value m → (n ≡ m) × (n ≡ 0 → ⊥)
unfolding fault_value
fault_some zero n e = absurd (none-some n (sym e))
fault_some (suc m) n e = let z = ap (λ (o : Option ℕ). unwrap_or o 0) e in (z, λ y. absurd (omega (arith, y, z)))

pub soonest_none : (f g : Option ℕ) → soonest f g ≡ None → (f ≡ None) × (g ≡ None)
unfolding soonest
soonest_none None g e = (refl, e)
soonest_none (Some m) None e = absurd (none-some m (sym e))
soonest_none (Some m) (Some n) e = absurd (none-some (min m n) (sym e))
