-- What an array of keys holds while the keys of terms and of lines are entered.
use mathlib.Core.Path.{◌≡◌, refl, sym, ap, ◌∙◌}
use mathlib.Core.Bool.{cond}
use mathlib.Core.List.{List, [], ◌∷◌, ◌++◌}
use lib.Dec.{eqb}
use Prim.Native.Nat.{ℕ, ◌+◌, ◌*◌, ◌≤◌, ◌<◌}
use native.Mathlib.Numerals.{add-one}
use native.Mathlib.Omega.{arith}
use borrow.Author.Tests.{eq-eqb, ne_eqb}
use lib.ListN.{length, take, get_or}
use lib.Seq.{take-suc, take_all}
use Rattle.model.specs.Limits.{most_columns, most_lines}
use Rattle.model.specs.declared.Term.{Term}
use Rattle.model.specs.declared.Line.{Line}
use Rattle.model.specs.declared.Query.{Query}
use Rattle.numbering.specs.Names.{held, entered, Entered, keys_in, LineNamed, keys_of, BodyNamed}
use Rattle.numbering.specs.declared.names.Names.{Names}

-- ---- the keys of one term more

keys_same : (seen : List ℕ) (ts : List Term) (t : Term) → (t.mark ≡ 3 → ⊥) → keys_in seen (ts ++ t ∷ []) ≡ keys_in seen ts
unfolding keys_in
keys_same seen [] t n = rw (ne_eqb t.mark 3 n)
keys_same seen (u ∷ ts) t n = keys_same (cond (eqb u.mark 3) (entered seen u.number) seen) ts t n

keys_more : (seen : List ℕ) (ts : List Term) (t : Term) → t.mark ≡ 3 → keys_in seen (ts ++ t ∷ []) ≡ entered (keys_in seen ts) t.number
unfolding keys_in
keys_more seen [] t e = rw (eq-eqb t.mark 3 e)
keys_more seen (u ∷ ts) t e = keys_more (cond (eqb u.mark 3) (entered seen u.number) seen) ts t e

-- ---- while the keys of a line are entered

-- the keys of the first p terms are behind those that were there
pub record Named (ts : List Term) (was : Names) (p : ℕ) (is : Names) : Type 0 where
  pub keys : held is ≡ keys_in (held was) (take p ts)
  pub most : is.count ≤ was.count + p

pub named_none : (ts : List Term) (was : Names) → Named ts was 0 was
unfolding keys_in
named_none ts was = record { keys = refl; most = omega arith }

module _ {ts : List Term} {was is : Names} {p : ℕ} (s : Named ts was p is) (d : Term) (h : p < length ts) where
  pub named_same : {r : Names} → ((get_or ts p d).mark ≡ 3 → ⊥) → r ≡ is → Named ts was (p + 1) r
  named_same n e =
      rw e record {
        keys = s.keys ∙ rw (add-one p, take-suc ts p d h) (sym (keys_same (held was) (take p ts) (get_or ts p d) n));
        most = omega (arith, s.most);
      }

  pub named_more : {r r' : Names} → (get_or ts p d).mark ≡ 3 → Entered is (get_or ts p d).number r → r' ≡ r → Named ts was (p + 1) r'
  named_more m w e =
      rw e record {
        keys =
            w.keys ∙ ap (λ (l : List ℕ). entered l (get_or ts p d).number) s.keys
            ∙ rw (add-one p, take-suc ts p d h) (sym (keys_more (held was) (take p ts) (get_or ts p d) m));
        most = omega (arith, s.most, w.most);
      }

pub named_all : (l : Line) {was is : Names} {p : ℕ} → Named l.terms was p is → length l.terms ≤ p → p ≤ most_columns → LineNamed l was is
named_all l {p = p} s all few = record { keys = rw (take_all p l.terms all) at s.keys; most = omega (arith, s.most) }

-- ---- while the keys of a body are entered

lines_more : (seen : List ℕ) (ls : List Line) (l : Line) → keys_of seen (ls ++ l ∷ []) ≡ keys_in (keys_of seen ls) l.terms
unfolding keys_of
lines_more seen [] l = refl
lines_more seen (m ∷ ls) l = lines_more (keys_in seen m.terms) ls l

-- the keys of the first k lines are there
pub record Gathered (ls : List Line) (k : ℕ) (is : Names) : Type 0 where
  pub keys : held is ≡ keys_of [] (take k ls)
  pub most : is.count ≤ k * most_columns

pub gathered_none : (ls : List Line) (is : Names) → (held is ≡ []) × (is.count ≡ 0) → Gathered ls 0 is
unfolding keys_of
gathered_none ls is e = record { keys = e.0; most = omega (arith, e.1) }

pub gathered_more : {ls : List Line} {is r : Names} {k : ℕ} (d : Line) → Gathered ls k is → k < length ls
    → LineNamed (get_or ls k d) is r → Gathered ls (k + 1) r
gathered_more {ls} {k = k} d g h w =
    record {
      keys =
          w.keys ∙ ap (λ (l : List ℕ). keys_in l (get_or ls k d).terms) g.keys
          ∙ rw (add-one k, take-suc ls k d h) (sym (lines_more [] (take k ls) (get_or ls k d)));
      most = omega (arith, g.most, w.most);
    }

pub gathered_all : {q : Query} {is : Names} {k : ℕ} → Gathered (take q.count q.lines) k is → length (take q.count q.lines) ≤ k
    → k ≤ most_lines → BodyNamed q is
gathered_all {q} {k = k} g all few =
    record { keys = rw (take_all k (take q.count q.lines) all) at g.keys; most = omega (arith, g.most, few) }
