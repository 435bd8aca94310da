-- Document 01's example: the rows marked (P), by one computation over the executable definitions; and what its partition 1
-- determines, as statements about every archive.
use mathlib.Core.Path.{◌≡◌, refl}
use mathlib.Core.Bool.{Bool, false, ◌&&◌, not}
use mathlib.Core.List.{List, map}
use Prim.Native.Nat.{ℕ, ◌-◌}
use lib.Dec.{T, T_not, leb, eqb, leb→le, eqb→eq, eqb_refl}
use lib.ListN.{length, get_or}
use Rattle.theory.specs.Query.{Term, constant, shown, hidden, Line, Query, NoClash}
use Rattle.theory.specs.Archive.{AllFit, Determines}
use Rattle.theory.specs.Printed.{Printed, printed, views, widths, partition1, query1, query4}
use Rattle.theory.specs.Executable.Test.{all}
use Rattle.theory.specs.Executable.Label.{labels, settles}
use Rattle.theory.proofs.Executable.Test.{and_iff, all_iff}
use Rattle.theory.proofs.Determine.{settles_iff_determines}

pub printed_labels : map (λ (r : Printed). labels views r.query) printed ≡ map (λ (r : Printed). r.words) printed
unfolding printed views labels
printed_labels = refl

-- ---- the hypotheses of the theorems, tested

fits_test : List ℕ → Line → Bool
fits_test ws A =
    leb 1 A.table && (leb A.table (length ws) && eqb (length A.columns) (get_or ws (A.table - 1) 0))

fits_tested : (ws : List ℕ) (Q : Query) → T (all (fits_test ws) Q) → AllFit ws Q
unfolding fits_test
fits_tested ws Q h A m =
    let f = (and_iff (leb 1 A.table) _).0 ((all_iff (fits_test ws) Q).0 h A m) in
    let g = (and_iff (leb A.table (length ws)) _).0 f.1 in
    record { first = leb→le 1 A.table f.0; last = leb→le A.table (length ws) g.0; width = eqb→eq _ _ g.1 }

-- the first is shown, the second hidden, under one number
clashes : Term → Term → Bool
clashes (constant c) u = false
clashes (shown n) (constant c) = false
clashes (shown n) (shown k) = false
clashes (shown n) (hidden k) = eqb n k
clashes (hidden n) u = false

clear_test : Query → Bool
clear_test Q = all (λ A. all (λ B. all (λ t. all (λ u. not (clashes t u)) B.columns) A.columns) Q) Q

clear_tested : (Q : Query) → T (clear_test Q) → NoClash Q
unfolding clear_test clashes
clear_tested Q h n A B i j s t =
    let a = (all_iff (λ A. all (λ B. all (λ t. all (λ u. not (clashes t u)) B.columns) A.columns) Q) Q).0 h A i in
    let b = (all_iff (λ B. all (λ t. all (λ u. not (clashes t u)) B.columns) A.columns) Q).0 a B j in
    let c = (all_iff (λ t. all (λ u. not (clashes t u)) B.columns) A.columns).0 b (shown n) s in
    T_not (eqb n n) ((all_iff (λ u. not (clashes (shown n) u)) B.columns).0 c (hidden n) t) (eqb_refl n)

-- ---- what partition 1 determines

-- query (1), `1 !1 #4 ?2`, for any two archives
pub partition1_determines_query1 : Determines widths partition1 query1
unfolding widths partition1 query1 settles all fits_test clear_test clashes
partition1_determines_query1 =
    (settles_iff_determines widths partition1 query1 (clear_tested query1 tt) (fits_tested widths query1 tt)).0 tt

-- not query (4), `1 !1 !2 !3`: some two archives agree on views 2 and 3 and tell it apart
pub partition1_does_not_determine_query4 : Determines widths partition1 query4 → ⊥
unfolding widths partition1 query4 settles all fits_test clear_test clashes
partition1_does_not_determine_query4 d =
    (settles_iff_determines widths partition1 query4 (clear_tested query4 tt) (fits_tested widths query4 tt)).1 d
