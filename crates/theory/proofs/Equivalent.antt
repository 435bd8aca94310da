-- Queries with the same answers on every archive: some map sends each into the other, so that their reduced forms are one another
-- renamed, and have the same labels.
use mathlib.Core.Path.{sym, ap, ◌∙◌, subst}
use mathlib.Core.List.Memᴰ
use mathlib.Core.List.{List, [], ◌++◌, map, Permᴰ}
use Prim.Native.Nat.{ℕ, zero-le}
use Rattle.theory.specs.Query.{Term, over, Line, Query, NoClash, Fits}
use Rattle.theory.specs.Archive.{Archive, AllFit, value, Answer, Equivalent}
use Rattle.theory.specs.Reduce.{Sends}
use Rattle.theory.specs.Executable.Label.{label, labels}
use Rattle.theory.proofs.Tuples.{fits_over}
use Rattle.theory.proofs.Alike.{alike_label}
use Rattle.theory.proofs.Executable.Reduce.{reduce_reduces}
use Rattle.theory.proofs.Fixed.{sent_forms_alike}
use Rattle.theory.proofs.Determine.Freeze.{Frozen, freeze, large}
use Rattle.theory.proofs.Determine.Thaw.{thaw, thaw_freeze, thaw_row}

-- ---- the rows of P, on which P has an answer

module _ (P Q : Query) where
  -- values for the terms of both, no two of them alike
  F : Frozen [] (P ++ Q) 0
  F = large [] (P ++ Q) 0

  rows : Archive
  rows = map (freeze F) P

  rows_fit : (widths : List ℕ) → AllFit widths P → AllFit widths rows
  unfolding rows
  rows_fit widths fits r m =
      let (A, a, e) = Memᴰ.of_map (freeze F) P m in
      subst (Fits widths) e (fits_over (value F.s F.h) A (fits A a))

  has_answer : Answer P rows F.s
  unfolding rows
  has_answer = (F.h, λ A m. Memᴰ.map (freeze F) m)

  -- ---- where Q has it too, Q goes into P: each value back to its term

  abbrev no_columns : Line
  no_columns = record { table = 0; columns = [] }

  abbrev to_term : ℕ → Term
  to_term = thaw F no_columns zero-le

  goes_into : Answer Q rows F.s → (m : ℕ → Term) × Sends m Q P
  unfolding rows
  goes_into (h, stands) = (
    λ n. to_term (h n),
    λ B b.
        let (C, c, e) = Memᴰ.of_map (freeze F) P (stands B b) in
        Memᴰ.cast
        (thaw_row F no_columns zero-le h B (Memᴰ.append_right P b) ∙ ap (over to_term) (sym e)
        ∙ thaw_freeze F no_columns zero-le C (Memᴰ.append_left Q c))
        c,
  )

-- ---- equivalent queries

sends : (widths : List ℕ) (P Q : Query) → AllFit widths P → Equivalent widths P Q → (m : ℕ → Term) × Sends m Q P
sends widths P Q fits e = goes_into P Q ((e (rows P Q) (rows_fit P Q widths fits) (F P Q).s).0 (has_answer P Q))

-- Queries that have the same answers on every archive have the same labels, repeats counted.
pub labels_by_answers : (widths : List ℕ) (vs : List Line) (P Q : Query) → AllFit widths P → AllFit widths Q → NoClash P → NoClash Q
    → Equivalent widths P Q → Permᴰ (labels vs P) (labels vs Q)
unfolding labels
labels_by_answers widths vs P Q fits_P fits_Q clear_P clear_Q e =
    let (m, to) = sends widths Q P fits_Q (λ D f s. ((e D f s).1, (e D f s).0)) in
    let (k, from) = sends widths P Q fits_P e in
    sent_forms_alike (label vs) (λ A B. alike_label vs) clear_P clear_Q m k to from (reduce_reduces P) (reduce_reduces Q)
