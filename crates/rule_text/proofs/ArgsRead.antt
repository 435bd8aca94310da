-- Reading the pieces of an atom as terms.
use mathlib.Core.Path.{◌≡◌, refl, sym, ap, ◌∙◌}
use mathlib.Core.Bool.{Bool, true, false, true≢false, not, and-true, and-false}
use mathlib.Core.List.{List, [], ◌∷◌, ◌++◌}
use mathlib.Core.Option.{none, some}
use Prim.Native.Nat.{ℕ, ◌+◌, ◌≤◌}
use native.Mathlib.Omega.{arith}
use lib.ListN.{length}
use borrow.Author.Tests.{not-true, not-false}
use Rattle.std.specs.Prelude.{Ok, Err}
use Rattle.std.specs.declared.slice.Split.{Split as Pieces}
use Rattle.theory.specs.Executable.Test.{all}
use Rattle.theory.proofs.Executable.Test.{all_more}
use Rattle.text.specs.Names.{bytes}
use Rattle.text.proofs.Cuts.{most_left, Cut}
use Rattle.model.specs.declared.Term.{Term}
use Rattle.model.specs.declared.Field.TheVariants.{Malformed as MalformedField, Outside as OutsideField, Within}
use Rattle.rules.specs.Rule.{Arg}
use Rattle.rules.specs.Text.{comma, onto, behind, arg_of, args_of}
use Rattle.rules.specs.Checks.{arg_within}
use Rattle.rule_text.specs.Atoms.{arg_field, good_atom, BehindArgs, args_value}
use Rattle.rule_text.specs.declared.args.Atom.{Atom}
use Rattle.rule_text.specs.declared.args.Unreadable.TheVariants.{Malformed, Outside}
use Rattle.rule_text.proofs.ArgFields.{field_says}
use Rattle.rule_text.proofs.Series.{SeriesRead, series_none, series_broken, series_more, series_all}

abbrev pub bracket : List ℕ
bracket = 40 ∷ []

abbrev pub gap : List ℕ
gap = 32 ∷ []

-- the pieces before those that are left were read as terms, no more than there are bytes: a holds them where none is past its limit
pub record ArgsRead {F : Type 0} (s : List ℕ) (a : Atom) (past : Bool) (now : List ℕ) (it : Pieces ℕ F) : Type 0 where
  pub values : List Arg
  pub passed : SeriesRead comma bracket gap arg_of s now values it
  pub limits : past ≡ not (all arg_within values)
  pub held : past ≡ false → a ≡ good_atom 0 values
  pub few : a.count + most_left it ≤ length s + 1

module _ {F : Type 0} {s : List ℕ} where
  pub args_none : {a : Atom} {it : Pieces ℕ F} → a ≡ good_atom 0 [] → it.done ≡ false → it.rest.now ≡ s → ArgsRead s a false bracket it
  unfolding all good_atom
  args_none {a} {it} e d z =
      record {
        values = [];
        passed = series_none comma bracket gap arg_of s it d z;
        limits = refl;
        held = λ y. e;
        few = rw (e, d, z) (omega arith);
      }

  -- ---- the next piece

  module _ {a : Atom} {past : Bool} {now f : List ℕ} {it then : Pieces ℕ F} (x : ArgsRead s a past now it) (here : Cut comma it f then) where
    broken : onto arg_of (behind now f) ≡ none → Err Malformed ≡ args_value (args_of s)
    unfolding args_value args_of bytes
    broken e = rw (series_broken comma bracket gap arg_of s x.passed here e)

    pub next_unled : behind now f ≡ none → Err Malformed ≡ args_value (args_of s)
    unfolding onto
    next_unled e = broken (rw e)

    module _ {g : List ℕ} (led : behind now f ≡ some g) where
      said : onto arg_of (behind now f) ≡ arg_of g
      unfolding onto
      said = rw led

      pub next_malformed : MalformedField ≡ arg_field (arg_of g) → Err Malformed ≡ args_value (args_of s)
      next_malformed e = broken (said ∙ field_says (arg_of g) e)

      pub next_outside : OutsideField ≡ arg_field (arg_of g) → ArgsRead s a true gap then
      next_outside e =
          let w = field_says (arg_of g) e in
          record {
            values = x.values ++ w.0 ∷ [];
            passed = series_more comma bracket gap arg_of s x.passed here w.0 (said ∙ w.1);
            limits = rw (all_more, w.2, and-false);
            held = λ z. absurd (true≢false z);
            few = omega (arith, x.few, here.fewer);
          }

      pub next_within : {t : Term} {b : Atom} → Within t ≡ arg_field (arg_of g) → BehindArgs a t b → ArgsRead s b past gap then
      next_within e m =
          let w = field_says (arg_of g) e in
          record {
            values = x.values ++ w.0 ∷ [];
            passed = series_more comma bracket gap arg_of s x.passed here w.0 (said ∙ w.1);
            limits = rw (all_more, w.2, and-true) x.limits;
            held = λ z. m.terms x.values w.0 (x.held z) w.3;
            few = omega (arith, x.few, here.fewer, m.count);
          }

  -- ---- all pieces

  module _ {a : Atom} {past : Bool} {now : List ℕ} {it : Pieces ℕ F} (x : ArgsRead s a past now it) (end : it.done ≡ true) where
    pub all_outside : past ≡ true → Err Outside ≡ args_value (args_of s)
    unfolding args_value args_of bytes
    all_outside e =
        rw (series_all comma bracket gap arg_of s x.passed end, not-true (all arg_within x.values) (sym x.limits ∙ e))

    pub all_within : past ≡ false → Ok a ≡ args_value (args_of s)
    unfolding args_value args_of bytes
    all_within e =
        rw (series_all comma bracket gap arg_of s x.passed end, not-false (all arg_within x.values) (sym x.limits ∙ e))
        (ap Ok (x.held e))
