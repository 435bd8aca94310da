-- Reducing, computed, is reducing.
use mathlib.Core.Path.{◌≡◌, refl, sym, ap, subst, ◌∙◌}
use mathlib.Core.Logic.{◌↔◌, ⊎_elim}
use mathlib.Core.Bool.{Bool, true, false, cond, ◌&&◌}
use mathlib.Core.List.Memᴰ
use mathlib.Core.List.{List, [], ◌∷◌, ◌++◌, zip}
use Prim.Native.Nat.{ℕ, zero, suc, ◌≤◌, ◌<◌, zero-le, suc-le-suc}
use native.Mathlib.Nat.{le_refl, eq-or-lt_of_le}
use native.Mathlib.Omega.{arith}
use lib.Dec.{T, eqb}
use lib.ListN.{length, length-map}
use mir.Facts.{eqb_yes, yes_eqb}
use Rattle.theory.specs.Query.{Term, constant, shown, hidden, over, Line, Query, ◌∈◌}
use Rattle.theory.specs.Reduce.{image, Sends, without, MayGo, ReducesTo, done, take_out}
use Rattle.theory.specs.Executable.Test.{all, same}
use Rattle.theory.specs.Executable.Reduce.{keeps, agrees, mappable, sendable, may_go, reduce_below, reduce}
use Rattle.theory.proofs.Lists.{length_without, without_twice}
use Rattle.theory.proofs.Find.{Functional, find, found}
use Rattle.theory.proofs.Tuples.{tuple_path, map_zip, zip_map}
use Rattle.theory.proofs.Terms.{term_discrete}
use Rattle.theory.proofs.Reduce.{sends_twice}
use Rattle.theory.proofs.Executable.Test.{and_iff, implies_iff, all_iff, any_iff, same_iff}

-- ---- a map of terms

pub agrees_iff : (y z : Term × Term) → T (agrees y z) ↔ (y.0 ≡ z.0 → y.1 ≡ z.1)
unfolding agrees
agrees_iff y z =
    let k = implies_iff (same y.0 z.0) (same y.1 z.1) in (
      λ h e. (same_iff y.1 z.1).0 (k.0 h ((same_iff y.0 z.0).1 e)),
      λ f. k.1 (λ h. (same_iff y.1 z.1).1 (f ((same_iff y.0 z.0).0 h))),
    )

-- a map keeps constants and shown variables
pub keeps_from : (m : ℕ → Term) (t u : Term) → image m t ≡ u → T (keeps (t, u))
unfolding keeps
keeps_from m (constant c) u e = (same_iff (constant c) u).1 e
keeps_from m (shown n) u e = (same_iff (shown n) u).1 e
keeps_from m (hidden n) u e = tt

-- the map that the pairs give, by looking up a hidden variable
pairs_map : List (Term × Term) → ℕ → Term
pairs_map zs n = find term_discrete (constant 0) (hidden n) zs

pairs_map_lem : (zs : List (Term × Term)) → Functional zs → (t u : Term) → ◌∈◌ {X = Term × Term} (t, u) zs → T (keeps (t, u))
    → image (pairs_map zs) t ≡ u
unfolding pairs_map keeps
pairs_map_lem zs f (constant c) u i k = (same_iff (constant c) u).0 k
pairs_map_lem zs f (shown n) u i k = (same_iff (shown n) u).0 k
pairs_map_lem zs f (hidden n) u i k = found term_discrete (constant 0) zs f (hidden n, u) i

-- the test of one pair among all
test_iff : (zs : List (Term × Term)) (y : Term × Term)
    → T (keeps y && all (agrees y) zs) ↔ (T (keeps y) × ((z : Term × Term) → z ∈ zs → y.0 ≡ z.0 → y.1 ≡ z.1))
test_iff zs y =
    let k = and_iff (keeps y) (all (agrees y) zs) in
    let a = all_iff (agrees y) zs in (
      λ h. ((k.0 h).0, λ z i. (agrees_iff y z).0 (a.0 (k.0 h).1 z i)),
      λ r. k.1 (r.0, a.1 (λ z i. (agrees_iff y z).1 (r.1 z i))),
    )

pub mappable_iff : (zs : List (Term × Term))
    → T (mappable zs) ↔ ((m : ℕ → Term) × ((z : Term × Term) → z ∈ zs → image m z.0 ≡ z.1))
unfolding mappable
mappable_iff zs =
    let a = all_iff (λ y. keeps y && all (agrees y) zs) zs in (
      λ h. (
        pairs_map zs,
        λ y i. pairs_map_lem zs (λ w z j. ((test_iff zs w).0 (a.0 h w j)).1 z) y.0 y.1 i ((test_iff zs y).0 (a.0 h y i)).0,
      ),
      λ r. a.1
          (λ y i. (test_iff zs y).1
          (keeps_from r.0 y.0 y.1 (r.1 y i), λ z j e. sym (r.1 y i) ∙ (ap (image r.0) e ∙ r.1 z j))),
    )

-- ---- a map of lines

-- same table, same width
alike_iff : (A B : Line) → T (eqb A.table B.table && eqb (length A.columns) (length B.columns))
    ↔ ((A.table ≡ B.table) × (length A.columns ≡ length B.columns))
alike_iff A B =
    let k = and_iff (eqb A.table B.table) (eqb (length A.columns) (length B.columns)) in
    (λ h. (eqb_yes (k.0 h).0, eqb_yes (k.0 h).1), λ e. k.1 (yes_eqb e.0, yes_eqb e.1))

-- A line goes to a target of its table and width where each of its terms goes to the one that stands over it.
sends_first : (m : ℕ → Term) (A B : Line) {Q R : Query} → (A.table ≡ B.table) × (length A.columns ≡ length B.columns)
    → ((z : Term × Term) → z ∈ zip A.columns B.columns → image m z.0 ≡ z.1) → B ∈ R → Sends m Q R
    → Sends m (A ∷ Q) R
sends_first m A B e f b s C c =
    ⊎_elim
    (λ q. Memᴰ.cast (ap (over (image m)) q ∙ tuple_path e.0 (map_zip (image m) A.columns B.columns e.1 f)) b)
    (λ t. s C t) (Memᴰ.cases_cons c)

pub sendable_iff : (zs : List (Term × Term)) (Q R : Query)
    → T (sendable zs Q R) ↔ ((m : ℕ → Term) × ((z : Term × Term) → z ∈ zs → image m z.0 ≡ z.1) × Sends m Q R)
unfolding sendable
sendable_iff zs [] R = (
  λ h. let r = (mappable_iff zs).0 h in (r.0, r.1, λ A a. absurd (Memᴰ.not-nil a)),
  λ r. (mappable_iff zs).1 (r.0, r.1),
)
sendable_iff zs (A ∷ Q) R = (
  λ h.
      let (B, b, p) = (any_iff target R).0 h in
      let (e, k) = (and_iff (alike B) (sendable (over_A B) Q R)).0 p in
      let (m, f, s) = (sendable_iff (over_A B) Q R).0 k in (
        m,
        (λ z i. f z (Memᴰ.append_right (zip A.columns B.columns) i)),
        sends_first m A B ((alike_iff A B).0 e) (λ z i. f z (Memᴰ.append_left zs i)) b s,
      ),
  λ r.
      let (m, f, s) = r in
      let B = over (image m) A in
      (any_iff target R).1 (
        B,
        s A (Memᴰ.head refl),
        (and_iff (alike B) (sendable (over_A B) Q R)).1 (
          (alike_iff A B).1 (refl, sym (length-map A.columns (image m))),
          (sendable_iff (over_A B) Q R).1 (
            m,
            (λ z i. ⊎_elim (zip_map (image m) A.columns z) (f z) (Memᴰ.append_cases (zip A.columns B.columns) i)),
            λ C c. s C (Memᴰ.tail c),
          ),
        ),
      ),
)
  where
    alike : Line → Bool
    alike B = eqb A.table B.table && eqb (length A.columns) (length B.columns)

    over_A : Line → List (Term × Term)
    over_A B = zip A.columns B.columns ++ zs

    target : Line → Bool
    target B = alike B && sendable (over_A B) Q R

pub may_go_iff : (Q : Query) (i : ℕ) → i < length Q → T (may_go Q i) ↔ MayGo Q i
unfolding may_go
may_go_iff Q i l =
    let k = sendable_iff [] Q (without i Q) in
    (λ h. let r = k.0 h in (l, r.0, r.2), λ g. k.1 (g.1, (λ z j. absurd (Memᴰ.not-nil j)), g.2))

-- ---- taking lines out

-- If line i goes and then the line now at place j, after it, that line (at place j + 1 before) may go from Q at once.
could_go : (Q : Query) (i j : ℕ) → i ≤ j → MayGo Q i → MayGo (without i Q) j → MayGo Q (suc j)
could_go Q i j h g k = (
  omega (arith, length_without i Q g.0),
  (λ n. image k.1 (g.1 n)),
  λ A a. without_twice i j Q (sends_twice g.1 k.1 g.2 k.2 A a) h,
)

-- One pass is enough: once no line at place n or later may go, it is enough to try the first n.
reduce_below_reduces : (n : ℕ) (Q : Query) → n ≤ length Q → ((j : ℕ) → n ≤ j → MayGo Q j → ⊥) → ReducesTo Q (reduce_below n Q)
unfolding reduce_below
reduce_below_reduces zero Q l none = done (λ j. none j zero-le)
reduce_below_reduces (suc i) Q l none = step (reduce_below_reduces i) (may_go Q i) (may_go_iff Q i l)
  where
    step : ((P : Query) → i ≤ length P → ((j : ℕ) → i ≤ j → MayGo P j → ⊥) → ReducesTo P (reduce_below i P)) → (b : Bool)
        → T b ↔ MayGo Q i → ReducesTo Q (reduce_below i (cond b (without i Q) Q))
    step rest true w =
        let g = w.0 tt in
        take_out i g
        (rest (without i Q) (omega (arith, length_without i Q l))
        (λ j h k. none (suc j) (suc-le-suc h) (could_go Q i j h g k)))
    step rest false w =
        rest Q (omega arith)
        (λ j h k. ⊎_elim (λ e. w.1 (subst (MayGo Q) (sym e) k)) (λ o. none j o k) (eq-or-lt_of_le h))

pub reduce_reduces : (Q : Query) → ReducesTo Q (reduce Q)
unfolding reduce
reduce_reduces Q = reduce_below_reduces (length Q) Q (le_refl (length Q)) (λ j h g. omega (arith, g.0))
