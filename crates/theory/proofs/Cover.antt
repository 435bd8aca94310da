-- Covering: a line covers itself, and what covers a cover covers the line.
use mathlib.Core.Path.{◌≡◌, refl, sym, ◌∙◌, subst}
use Prim.Native.Nat.{ℕ, ◌<◌}
use lib.ListN.{length}
use Rattle.theory.specs.Query.{Term, constant, shown, hidden, Line}
use Rattle.theory.specs.Cover.{Rules, Covers}

-- Where the view has equal terms the line has equal terms: variables by rule 2, constants by rule 1 at either column.
pub equal_terms : (v v' a a' : Term) → Rules v v' a a' → Rules v' v a' a → v ≡ v' → a ≡ a'
equal_terms (constant c) v' a a' r s e = r.constants c refl ∙ sym (s.constants c (sym e))
equal_terms (shown n) v' a a' r s e = r.equals tt e
equal_terms (hidden n) v' a a' r s e = r.equals tt e

pub rules_trans : {u u' v v' a a' : Term} → Rules u u' v v' → Rules v v' a a' → Rules v' v a' a → Rules u u' a a'
rules_trans {v} {v'} {a} {a'} r s t =
    record {
      constants = λ c e. s.constants c (r.constants c e);
      equals = λ x e. equal_terms v v' a a' s t (r.equals x e);
      hides = λ x. s.hides (r.hides x);
      only = λ x e. r.only x (s.only (r.hides x) e);
    }

pub covers_trans : {u v A : Line} → Covers u v → Covers v A → Covers u A
covers_trans {u} {v} c d =
    record {
      table = c.table ∙ d.table;
      width = c.width ∙ d.width;
      rules = λ p q h l.
          rules_trans (c.rules p q h l) (d.rules p q (within p h) (within q l)) (d.rules q p (within q l) (within p h));
    }
  where
    within : (p : ℕ) → p < length u.columns → p < length v.columns
    within p h = subst (λ (n : ℕ). p < n) c.width h

pub covers_self : (A : Line) → Covers A A
covers_self A =
    record {
      table = refl;
      width = refl;
      rules = λ p q h l. record { constants = λ c e. e; equals = λ x e. e; hides = λ x. x; only = λ x e. e };
    }
