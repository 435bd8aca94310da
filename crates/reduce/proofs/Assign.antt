-- A map that sends lines to lines is an assignment of a target to each of them in which every two lines, and each line with
-- itself, agree.
use mathlib.Core.Path.{◌≡◌, refl, sym, ap, subst, ◌∙◌}
use mathlib.Core.Logic.{◌↔◌, ⊎_elim}
use mathlib.Core.Bool.{Bool, true, false, cond, ◌&&◌}
use mathlib.Core.List.Memᴰ
use mathlib.Core.List.{List, [], ◌++◌, zip}
use Prim.Native.Nat.{ℕ, zero, suc, ◌<◌}
use native.Mathlib.Nat.{not-suc-le-zero, le_refl, le_step, le_of_suc-le-suc, eq-or-lt_of_le}
use lib.Dec.{T}
use lib.ListN.{length, length-map}
use mir.Facts.{eqb_yes, yes_eqb}
use Rattle.theory.specs.Query.{Term, over, Line, Query, ◌∈◌}
use Rattle.theory.specs.Reduce.{image, without, Sends}
use Rattle.theory.specs.Executable.Test.{all}
use Rattle.theory.specs.Executable.Reduce.{keeps, agrees, mappable, sendable, may_go}
use Rattle.theory.proofs.Tuples.{tuple_path, map_zip, zip_map}
use Rattle.theory.proofs.Executable.Test.{and_iff, all_iff}
use Rattle.theory.proofs.Executable.Reduce.{agrees_iff, keeps_from, mappable_iff, sendable_iff}
use Rattle.words.specs.Bits.{bit, is_set}
use Rattle.entering.specs.Agree.{agree, line_at}
use Rattle.entering.specs.Left.{lines_at}
use Rattle.entering.proofs.Left.{in_lines, lines_in_lem}
use Rattle.reduce.proofs.Agree.{Goes, agree_iff}

-- ---- a line and what a map makes of it

pub goes_image : (m : ℕ → Term) (A : Line) → Goes A (over (image m) A)
goes_image m A = record {
  table = refl;
  width = sym (length-map A.columns (image m));
  kept = λ z i. keeps_from m z.0 z.1 (zip_map (image m) A.columns z i);
}

agree_image : (m : ℕ → Term) (A B : Line) → T (agree A (over (image m) A) B (over (image m) B))
agree_image m A B =
    (agree_iff A (over (image m) A) B (over (image m) B)).1 (
      goes_image m A,
      goes_image m B,
      λ y i z j. (agrees_iff y z).1
          (λ e. sym (zip_map (image m) A.columns y i) ∙ (ap (image m) e ∙ zip_map (image m) B.columns z j)),
    )

-- ---- the pairs of all lines

module _ (g : ℕ → List (Term × Term)) where
  together : ℕ → List (Term × Term)
  together zero = []
  together (suc n) = g n ++ together n

  together_in : (n i : ℕ) (z : Term × Term) → i < n → z ∈ g i → z ∈ together n
  unfolding together
  together_in zero i z l m = absurd (not-suc-le-zero l)
  together_in (suc n) i z l m =
      ⊎_elim (λ e. Memᴰ.append_left (together n) (subst (λ (k : ℕ). z ∈ g k) e m)) (λ k. Memᴰ.append_right (g n) (together_in n i z k m))
      (eq-or-lt_of_le (le_of_suc-le-suc l))

  in_together : (n : ℕ) (z : Term × Term) → z ∈ together n → (i : ℕ) × (i < n) × (z ∈ g i)
  unfolding together
  in_together zero z m = absurd (Memᴰ.not-nil m)
  in_together (suc n) z m =
      ⊎_elim (λ h. (n, le_refl (suc n), h)) (λ h. let r = in_together n z h in (r.0, le_step r.1, r.2))
      (Memᴰ.append_cases (g n) m)

-- ---- assignments

-- a line of R for each line of Q at the bits of a word, every two of which agree
pub record Assigned (Q : Query) (rows : ℕ) (R : Query) : Type 0 where
  pub target : ℕ → Line
  pub within : (i : ℕ) → i < length Q → bit rows i ≡ 1 → target i ∈ R
  pub joint : (i j : ℕ) → i < length Q → j < length Q → bit rows i ≡ 1 → bit rows j ≡ 1
      → T (agree (line_at Q i) (target i) (line_at Q j) (target j))

-- where a test passes, the list, and nothing where it fails
if_in : {X : Type 0} (b : Bool) (l : List X) {x : X} → T b → x ∈ l → x ∈ cond b l []
if_in true l t m = m
if_in false l t m = absurd t

in_if : {X : Type 0} (b : Bool) (l : List X) {x : X} → x ∈ cond b l [] → T b × (x ∈ l)
in_if true l m = (tt, m)
in_if false l m = absurd (Memᴰ.not-nil m)

module _ (Q : Query) (rows : ℕ) (R : Query) where
  module _ (a : Assigned Q rows R) where
    -- the terms of a line over those of its target
    over_target : ℕ → List (Term × Term)
    over_target i = zip (line_at Q i).columns (a.target i).columns

    pairs : ℕ → List (Term × Term)
    pairs i = cond (is_set rows i) (over_target i) []

    goes_target : (i : ℕ) → i < length Q → bit rows i ≡ 1 → Goes (line_at Q i) (a.target i)
    goes_target i l h = ((agree_iff (line_at Q i) (a.target i) (line_at Q i) (a.target i)).0 (a.joint i i l l h h)).0

    -- the pairs of all lines belong to one map
    one_map : T (mappable (together pairs (length Q)))
    unfolding mappable pairs over_target
    one_map =
        let zs = together pairs (length Q) in
        (all_iff (λ y. keeps y && all (agrees y) zs) zs).1
        (λ y i.
        let (k, l, y∈) = in_together pairs (length Q) y i in
        let (t, y∈') = in_if (is_set rows k) (over_target k) y∈ in
        (and_iff (keeps y) (all (agrees y) zs)).1 (
          (goes_target k l (eqb_yes t)).kept y y∈',
          (all_iff (agrees y) zs).1
              (λ z j.
              let (n, b, z∈) = in_together pairs (length Q) z j in
              let (u, z∈') = in_if (is_set rows n) (over_target n) z∈ in
              ((agree_iff (line_at Q k) (a.target k) (line_at Q n) (a.target n)).0 (a.joint k n l b (eqb_yes t) (eqb_yes u))).2 y y∈' z z∈'),
        ))

    -- a map of these pairs sends each line to its target
    sends : (m : ℕ → Term) → ((z : Term × Term) → z ∈ together pairs (length Q) → image m z.0 ≡ z.1) → Sends m (lines_at rows Q) R
    unfolding pairs over_target
    sends m f A i =
        let (k, l, h, e) = lines_in_lem rows Q i in
        let w = goes_target k l h in
        let same : over (image m) (line_at Q k) ≡ a.target k =
        tuple_path w.table
        (map_zip (image m) (line_at Q k).columns (a.target k).columns w.width
        (λ z j. f z (together_in pairs (length Q) k z l (if_in (is_set rows k) (over_target k) (yes_eqb h) j)))) in
        Memᴰ.cast (ap (over (image m)) (sym e) ∙ same) (a.within k l h)

  assigned : (m : ℕ → Term) → Sends m (lines_at rows Q) R → Assigned Q rows R
  assigned m s = record {
    target = λ i. over (image m) (line_at Q i);
    within = λ i l h. s (line_at Q i) (in_lines rows Q i l h);
    joint = λ i j l k h g. agree_image m (line_at Q i) (line_at Q j);
  }

  pub assigned_iff : Assigned Q rows R ↔ ((m : ℕ → Term) × Sends m (lines_at rows Q) R)
  assigned_iff = (
    λ a. let (m, f) = (mappable_iff (together (pairs a) (length Q))).0 (one_map a) in (m, sends a m f),
    λ r. assigned r.0 r.1,
  )

-- ---- a line that may go

pub may_go_sends : (P R : Query) (i : ℕ) → without i P ≡ R → T (may_go P i) ↔ ((m : ℕ → Term) × Sends m P R)
unfolding may_go
may_go_sends P R i e =
    let w = sendable_iff [] P R in
    subst (λ (S : Query). T (sendable [] P S) ↔ ((m : ℕ → Term) × Sends m P R)) (sym e)
    (λ t. let (m, z, s) = w.0 t in (m, s), λ r. w.1 (r.0, (λ z i. absurd (Memᴰ.not-nil i)), r.1))
