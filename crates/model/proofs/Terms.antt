-- The value of a list of terms, and of one term more behind them.
use mathlib.Core.Path.{◌≡◌, refl, sym, ap, ◌∙◌}
use mathlib.Core.List.{List, [], ◌∷◌, ◌++◌, map, map-append}
use Prim.Native.Nat.{ℕ, ◌+◌, ◌≤◌, ◌<◌}
use native.Mathlib.Decide.{dec_lt}
use native.Mathlib.Omega.{arith}
use lib.ListN.{length, take, set, length-append, length-take, length-map}
use lib.Seq.{take_all, take-append-le, set_out}
use Rattle.theory.specs.Query.{constant, shown, hidden}
use Rattle.theory.specs.Query.{Term as TheTerm}
use Rattle.model.specs.Value.{pad, unused_term, term_value, terms_value}
use Rattle.model.specs.Parsed.{with_shown, with_hidden, bits_of, good_value}
use Rattle.model.specs.Marks.{with_mark, Behind}
use Rattle.model.specs.Limits.{most_columns}
use Rattle.model.specs.declared.Term.{Term}
use Rattle.model.specs.declared.Parsed.{Parsed}
use Rattle.model.proofs.Pad.{pad_length, pad_more}

-- ---- the places of terms

pub terms_few : (ts : List TheTerm) → length ts ≤ most_columns → terms_value ts ≡ pad most_columns unused_term (map term_value ts)
unfolding terms_value
terms_few ts h = ap (pad most_columns unused_term) (take_all most_columns (map term_value ts) (simp length-map h))

pub terms_length : (ts : List TheTerm) → length (terms_value ts) ≡ most_columns
unfolding terms_value
terms_length ts = pad_length most_columns unused_term (take most_columns (map term_value ts)) (simp length-take (omega arith))

-- the first unused place taken
pub terms_more : (ts : List TheTerm) (u : TheTerm) → length ts < most_columns
    → set (terms_value ts) (length ts) (term_value u) ≡ terms_value (ts ++ u ∷ [])
terms_more ts u h =
    rw (terms_few ts (omega arith), terms_few (ts ++ u ∷ []) (simp length-append (omega arith)), map-append, ← length-map ts term_value)
    (pad_more most_columns unused_term (map term_value ts) (term_value u) (simp length-map h))

-- no more than the most columns are kept
pub terms_full : (ts : List TheTerm) (u : TheTerm) → most_columns ≤ length ts → terms_value ts ≡ terms_value (ts ++ u ∷ [])
unfolding terms_value
terms_full ts u h =
    rw (map-append, take-append-le most_columns (map term_value ts) (map term_value (u ∷ [])) (simp length-map h))

-- ---- the variables as bits

pub bits_more : (add : ℕ → TheTerm → ℕ) (m : ℕ) (ts : List TheTerm) (u : TheTerm) → bits_of add m (ts ++ u ∷ []) ≡ add (bits_of add m ts) u
unfolding bits_of
bits_more add m [] u = refl
bits_more add m (t ∷ ts) u = bits_more add (add m t) ts u

pub mark_shown : (m : ℕ) (u : TheTerm) → with_mark 2 m (term_value u) ≡ with_shown m u
unfolding with_mark term_value with_shown
mark_shown m (constant c) = refl
mark_shown m (shown n) = refl
mark_shown m (hidden n) = refl

pub mark_hidden : (m : ℕ) (u : TheTerm) → with_mark 3 m (term_value u) ≡ with_hidden m u
unfolding with_mark term_value with_hidden
mark_hidden m (constant c) = refl
mark_hidden m (shown n) = refl
mark_hidden m (hidden n) = refl

-- ---- one term more

-- q holds p's terms with t in the place behind them, if there is one
pub record Placed (p : Parsed) (t : Term) (q : Parsed) : Type 0 where
  pub ok : q.ok ≡ p.ok
  pub outside : q.outside ≡ p.outside
  pub table : q.table ≡ p.table
  pub terms : length p.terms ≡ most_columns → q.terms ≡ set p.terms p.count t

abbrev grown : Parsed → ℕ → List Term → ℕ → ℕ → Parsed
grown q n l a b =
    record { ok = q.ok; outside = q.outside; table = q.table; count = n; terms = l; shown = a; hidden = b }

pub placed_within : {p q : Parsed} {t : Term} → q ≡ grown p p.count (set p.terms p.count t) p.shown p.hidden → Placed p t q
placed_within e =
    record {
      ok = ap (λ (x : Parsed). x.ok) e;
      outside = ap (λ (x : Parsed). x.outside) e;
      table = ap (λ (x : Parsed). x.table) e;
      terms = λ h. ap (λ (x : Parsed). x.terms) e;
    }

pub placed_past : {p q : Parsed} {t : Term} → most_columns ≤ p.count → q ≡ p → Placed p t q
placed_past {p} {q} {t} h e =
    record {
      ok = ap (λ (x : Parsed). x.ok) e;
      outside = ap (λ (x : Parsed). x.outside) e;
      table = ap (λ (x : Parsed). x.table) e;
      terms = λ l. ap (λ (x : Parsed). x.terms) e ∙ sym (set_out p.terms p.count t (omega arith));
    }

-- a term in the place behind them, if there is one
pub terms_placed : (ts : List TheTerm) (u : TheTerm) → set (terms_value ts) (length ts) (term_value u) ≡ terms_value (ts ++ u ∷ [])
terms_placed ts u = go (dec_lt (length ts) most_columns)
  where
    go : Dec (length ts < most_columns) → set (terms_value ts) (length ts) (term_value u) ≡ terms_value (ts ++ u ∷ [])
    go (yes h) = terms_more ts u h
    go (no h) =
        set_out (terms_value ts) (length ts) (term_value u) (omega (arith, terms_length ts)) ∙ terms_full ts u (omega arith)

module _ (p q : Parsed) (t : Term) (a b : ℕ) (r : Placed p t q) (ea : a ≡ with_mark 2 p.shown t) (eb : b ≡ with_mark 3 p.hidden t) where
  more : (ts : List TheTerm) (u : TheTerm) → p ≡ good_value 0 ts → t ≡ term_value u
      → grown q (p.count + 1) q.terms a b ≡ good_value 0 (ts ++ u ∷ [])
  unfolding good_value
  more ts u ep et =
      let long : length p.terms ≡ most_columns = ap (λ (x : Parsed). length x.terms) ep ∙ terms_length ts in
      let terms : q.terms ≡ terms_value (ts ++ u ∷ []) = r.terms long ∙ rw (et, ep) (terms_placed ts u) in
      let count : p.count + 1 ≡ length (ts ++ u ∷ []) = rw (ep, length-append) in
      let ones : a ≡ bits_of with_shown 0 (ts ++ u ∷ []) = ea ∙ rw (et, ep, bits_more) (mark_shown (bits_of with_shown 0 ts) u) in
      let others : b ≡ bits_of with_hidden 0 (ts ++ u ∷ []) = eb ∙ rw (et, ep, bits_more) (mark_hidden (bits_of with_hidden 0 ts) u) in
      λ i.
      record {
        ok = (r.ok ∙ ap (λ (x : Parsed). x.ok) ep) i;
        outside = (r.outside ∙ ap (λ (x : Parsed). x.outside) ep) i;
        table = (r.table ∙ ap (λ (x : Parsed). x.table) ep) i;
        count = count i;
        terms = terms i;
        shown = ones i;
        hidden = others i;
      }

  pub behind : Behind p t (grown q (p.count + 1) q.terms a b)
  behind = record { count = refl; terms = more }
