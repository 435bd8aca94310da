-- What the value of a series of terms, or of an atom, says of it.
use mathlib.Core.Path.{◌≡◌, refl, subst⁻¹}
use mathlib.Core.Bool.{Bool, true, false, cond}
use mathlib.Core.List.{List}
use mathlib.Core.Option.{Option, none, some}
use Rattle.std.specs.Prelude.{Result, Ok, Err}
use Rattle.theory.specs.Executable.Test.{all}
use Rattle.rules.specs.Rule.{Arg}
use Rattle.rules.specs.Rule.{Atom as TheAtom}
use Rattle.rules.specs.Checks.{arg_within, atom_within}
use Rattle.rule_text.specs.Atoms.{good_atom, args_value, atom_value}
use Rattle.rule_text.specs.declared.args.Atom.{Atom}
use Rattle.rule_text.specs.declared.args.Unreadable.{Unreadable}
use Rattle.rule_text.specs.declared.args.Unreadable.TheVariants.{Malformed, Outside}

-- ---- the terms

abbrev pub ArgsSaid : Result Atom Unreadable → Option (List Arg) → Type 0
ArgsSaid (Ok a) o = (ts : List Arg) × (o ≡ some ts) × (all arg_within ts ≡ true) × (a ≡ good_atom 0 ts)
ArgsSaid (Err Malformed) o = o ≡ none
ArgsSaid (Err Outside) o = (ts : List Arg) × (o ≡ some ts) × (all arg_within ts ≡ false)

pub args_said : {r : Result Atom Unreadable} (o : Option (List Arg)) → r ≡ args_value o → ArgsSaid r o
unfolding args_value
args_said o e = subst⁻¹ (λ (r : Result Atom Unreadable). ArgsSaid r o) e (say o)
  where
    say : (o : Option (List Arg)) → ArgsSaid (args_value o) o
    say none = refl
    say (some ts) = go (all arg_within ts) refl
      where
        go : (t : Bool) → all arg_within ts ≡ t → ArgsSaid (cond t (Ok (good_atom 0 ts)) (Err Outside)) (some ts)
        go true e = (ts, refl, e, refl)
        go false e = (ts, refl, e)

-- ---- the atom

abbrev pub AtomSaid : Result Atom Unreadable → Option TheAtom → Type 0
AtomSaid (Ok a) o = (x : TheAtom) × (o ≡ some x) × (atom_within x ≡ true) × (a ≡ good_atom x.table x.args)
AtomSaid (Err Malformed) o = o ≡ none
AtomSaid (Err Outside) o = (x : TheAtom) × (o ≡ some x) × (atom_within x ≡ false)

pub atom_said : {r : Result Atom Unreadable} (o : Option TheAtom) → r ≡ atom_value o → AtomSaid r o
unfolding atom_value
atom_said o e = subst⁻¹ (λ (r : Result Atom Unreadable). AtomSaid r o) e (say o)
  where
    say : (o : Option TheAtom) → AtomSaid (atom_value o) o
    say none = refl
    say (some x) = go (atom_within x) refl
      where
        go : (t : Bool) → atom_within x ≡ t → AtomSaid (cond t (Ok (good_atom x.table x.args)) (Err Outside)) (some x)
        go true e = (x, refl, e, refl)
        go false e = (x, refl, e)
