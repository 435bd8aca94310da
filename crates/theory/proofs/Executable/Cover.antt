-- The test of covering is covering.
use mathlib.Core.Path.{◌≡◌, refl, ◌∙◌, subst}
use mathlib.Core.Logic.{◌↔◌}
use mathlib.Core.Bool.{Bool, not, ◌&&◌, ◌||◌}
use Prim.Native.Nat.{ℕ}
use lib.Dec.{T, eqb}
use lib.ListN.{length}
use mir.Facts.{and_yes, yes_and, eqb_yes, yes_eqb}
use Rattle.theory.specs.Query.{Term, constant, shown, hidden, Line}
use Rattle.theory.specs.Cover.{at, IsVariable, IsHidden, Rules, Covers}
use Rattle.theory.specs.Executable.Test.{all_below, same}
use Rattle.theory.specs.Executable.Cover.{is_hidden, obeys, covers}
use Rattle.theory.proofs.Executable.Test.{all_below_iff, implies_iff, same_iff}

pub is_hidden_iff : (t : Term) → T (is_hidden t) ↔ IsHidden t
unfolding is_hidden
is_hidden_iff (constant c) = (λ h. h, λ h. h)
is_hidden_iff (shown n) = (λ h. h, λ h. h)
is_hidden_iff (hidden n) = (λ h. h, λ h. h)

-- the test of "where t and u are equal, so are a and b"
equal_iff : (t u a b : Term) → T (not (same t u) || same a b) ↔ (t ≡ u → a ≡ b)
equal_iff t u a b = (
  λ h e. (same_iff a b).0 ((implies_iff (same t u) (same a b)).0 h ((same_iff t u).1 e)),
  λ h. (implies_iff (same t u) (same a b)).1 (λ k. (same_iff a b).1 (h ((same_iff t u).0 k))),
)

obeys_to : (v v' a a' : Term) → T (obeys v v' a a') → Rules v v' a a'
unfolding obeys
obeys_to (constant c) v' a a' h =
    record {
      constants = λ d e. (same_iff a (constant c)).0 h ∙ e;
      equals = λ x. absurd x;
      hides = λ x. absurd x;
      only = λ x. absurd x;
    }
obeys_to (shown n) v' a a' h =
    record {
      constants = λ c e. absurd (subst IsVariable e tt);
      equals = λ x. (equal_iff (shown n) v' a a').0 h;
      hides = λ x. absurd x;
      only = λ x. absurd x;
    }
obeys_to (hidden n) v' a a' h =
    let r = and_yes (not (same (hidden n) v') || same a a') (is_hidden a && (not (same a a') || same (hidden n) v')) h in
    let s = and_yes (is_hidden a) (not (same a a') || same (hidden n) v') r.1 in
    record {
      constants = λ c e. absurd (subst IsVariable e tt);
      equals = λ x. (equal_iff (hidden n) v' a a').0 r.0;
      hides = λ x. (is_hidden_iff a).0 s.0;
      only = λ x. (equal_iff a a' (hidden n) v').0 s.1;
    }

obeys_from : (v v' a a' : Term) → Rules v v' a a' → T (obeys v v' a a')
unfolding obeys
obeys_from (constant c) v' a a' r = (same_iff a (constant c)).1 (r.constants c refl)
obeys_from (shown n) v' a a' r = (equal_iff (shown n) v' a a').1 (r.equals tt)
obeys_from (hidden n) v' a a' r =
    yes_and (not (same (hidden n) v') || same a a') (is_hidden a && (not (same a a') || same (hidden n) v'))
    ((equal_iff (hidden n) v' a a').1 (r.equals tt))
    (yes_and (is_hidden a) (not (same a a') || same (hidden n) v')
    ((is_hidden_iff a).1 (r.hides tt)) ((equal_iff a a' (hidden n) v').1 (r.only tt)))

pub obeys_iff : (v v' a a' : Term) → T (obeys v v' a a') ↔ Rules v v' a a'
obeys_iff v v' a a' = (obeys_to v v' a a', obeys_from v v' a a')

module _ (v A : Line) where
  -- the rules at column p and each column q
  obeys_at : ℕ → Bool
  obeys_at p = all_below (length v.columns) (λ q. obeys (at v p) (at v q) (at A p) (at A q))

  covers_to : T (covers v A) → Covers v A
  unfolding covers obeys_at
  covers_to h =
      let r = and_yes (eqb v.table A.table) _ h in
      let s = and_yes (eqb (length v.columns) (length A.columns)) (all_below (length v.columns) obeys_at) r.1 in
      record {
        table = eqb_yes r.0;
        width = eqb_yes s.0;
        rules = λ p q k l.
            (obeys_iff (at v p) (at v q) (at A p) (at A q)).0
            ((all_below_iff _ _).0 ((all_below_iff obeys_at _).0 s.1 p k) q l);
      }

  covers_from : Covers v A → T (covers v A)
  unfolding covers obeys_at
  covers_from c =
      yes_and (eqb v.table A.table) _ (yes_eqb c.table)
      (yes_and (eqb (length v.columns) (length A.columns)) (all_below (length v.columns) obeys_at)
      (yes_eqb c.width)
      ((all_below_iff obeys_at _).1
      (λ p k. (all_below_iff _ _).1 (λ q l. (obeys_iff (at v p) (at v q) (at A p) (at A q)).1 (c.rules p q k l)))))

  pub covers_iff : T (covers v A) ↔ Covers v A
  covers_iff = (covers_to, covers_from)
