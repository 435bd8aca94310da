-- The labels that hold no granted view: which these are, how many at most, and one label more behind the others.
use mathlib.Core.Path.{◌≡◌, refl, sym, ap, subst, ◌∙◌}
use mathlib.Core.Logic.{◌↔◌, ◌⊎◌, inl, inr, ⊎_elim}
use mathlib.Core.Bool.{Bool, true, false, cond, not}
use mathlib.Core.List.{List, [], ◌∷◌, ◌++◌, map, append-nil, map-append}
use mathlib.Core.List.Memᴰ
use Prim.Native.Nat.{ℕ, ◌+◌, ◌≤◌}
use native.Mathlib.Nat.{le_refl}
use native.Mathlib.Omega.{arith}
use borrow.Author.Tests.{eq-eqb, eqb-true}
use lib.Dec.{T, eqb}
use lib.ListN.{length, length-map}
use Rattle.theory.specs.Query.{◌∈◌}
use Rattle.theory.specs.Executable.Test.{any}
use Rattle.theory.proofs.Executable.Test.{same_test, any_iff}
use Rattle.words.specs.Bits.{bit}
use Rattle.words.proofs.Answers.{true_holds, holds_true}
use Rattle.words.proofs.Bits.{bit_zero}
use Rattle.words.proofs.Tests.{meet_iff}
use Rattle.labelling.specs.Settled.{holds_one}
use Rattle.explain.specs.Explanation.{views_of, keep, lacking}
use Rattle.grants.specs.Granting.{some_bare}

-- ---- the elements that pass

in_cond : (b : Bool) (x y : ℕ) (l : List ℕ) → x ∈ cond b (y ∷ l) l → ((x ≡ y) × T b) ⊎ (x ∈ l)
in_cond true x y l m = ⊎_elim (λ e. inl (e, tt)) (λ i. inr i) (Memᴰ.cases_cons m)
in_cond false x y l m = inr m

cond_in : (b : Bool) (x y : ℕ) (l : List ℕ) → ((x ≡ y) × T b) ⊎ (x ∈ l) → x ∈ cond b (y ∷ l) l
cond_in true x y l = ⊎_elim (λ r. Memᴰ.head r.0) (λ i. Memᴰ.tail i)
cond_in false x y l = ⊎_elim (λ r. absurd r.1) (λ i. i)

cond_append : (b : Bool) (x : ℕ) (l m : List ℕ) → cond b (x ∷ l) l ++ m ≡ cond b (x ∷ l ++ m) (l ++ m)
cond_append true x l m = refl
cond_append false x l m = refl

cond_few : (b : Bool) (x : ℕ) (l : List ℕ) (n : ℕ) → length l ≤ n → length (cond b (x ∷ l) l) ≤ n + 1
cond_few true x l n h = omega arith
cond_few false x l n h = omega arith

module _ (f : ℕ → Bool) where
  kept : (l : List ℕ) (x : ℕ) → x ∈ keep f l → (x ∈ l) × T (f x)
  unfolding keep
  kept [] x m = absurd (Memᴰ.not-nil m)
  kept (y ∷ l) x m =
      ⊎_elim (λ r. (Memᴰ.head r.0, subst (λ (z : ℕ). T (f z)) (sym r.0) r.1))
      (λ i. let (a, t) = kept l x i in (Memᴰ.tail a, t)) (in_cond (f y) x y (keep f l) m)

  keeps : (l : List ℕ) (x : ℕ) → x ∈ l → T (f x) → x ∈ keep f l
  unfolding keep
  keeps [] x m t = absurd (Memᴰ.not-nil m)
  keeps (y ∷ l) x m t =
      cond_in (f y) x y (keep f l)
      (⊎_elim (λ e. inl (e, subst (λ (z : ℕ). T (f z)) e t)) (λ i. inr (keeps l x i t)) (Memᴰ.cases_cons m))

  keep_append : (l m : List ℕ) → keep f (l ++ m) ≡ keep f l ++ keep f m
  unfolding keep
  keep_append [] m = refl
  keep_append (x ∷ l) m = rw (keep_append l m) (sym (cond_append (f x) x (keep f l) (keep f m)))

  keep_few : (l : List ℕ) → length (keep f l) ≤ length l
  unfolding keep
  keep_few [] = le_refl 0
  keep_few (x ∷ l) = omega (arith, cond_few (f x) x (keep f l) (length l) (keep_few l))

pub keep_iff : (f : ℕ → Bool) (l : List ℕ) (x : ℕ) → (x ∈ keep f l) ↔ ((x ∈ l) × T (f x))
keep_iff f l x = (kept f l x, λ r. keeps f l x r.0 r.1)

-- ---- the labels

not_iff : (b : Bool) → T (not b) ↔ (T b → ⊥)
not_iff true = (λ t. absurd t, λ f. f tt)
not_iff false = (λ t u. u, λ f. tt)

pub lacking_iff : (granted : ℕ) (ws : List ℕ) (v : ℕ)
    → (v ∈ lacking granted ws) ↔ ((w : ℕ) × (w ∈ ws) × (v ≡ views_of w) × (T (holds_one granted w) → ⊥))
unfolding lacking
lacking_iff granted ws v = (
  λ m.
      let (w, i, e) = Memᴰ.of_map views_of (keep lacks ws) m in
      let (a, t) = (keep_iff lacks ws w).0 i in (w, a, sym e, (not_iff (holds_one granted w)).0 t),
  λ r.
      subst (λ (x : ℕ). x ∈ map views_of (keep lacks ws)) (sym r.2)
      (Memᴰ.map views_of ((keep_iff lacks ws r.0).1 (r.1, (not_iff (holds_one granted r.0)).1 r.3))),
)
  where
    lacks : ℕ → Bool
    lacks w = not (holds_one granted w)

-- a label without views holds no granted view
bare_holds_none : (granted w : ℕ) → views_of w ≡ 0 → T (holds_one granted w) → ⊥
unfolding holds_one views_of
bare_holds_none granted w e t =
    let (k, _, x, _) = (meet_iff 64 (views_of w) granted).0 (sym (holds_true _ t)) in
    omega (arith, bit_zero k, ap (λ (u : ℕ). bit u k) e, x)

-- so some word is 0 exactly when some label holds no view
pub bare_lacking : (granted : ℕ) (ws : List ℕ) → any (eqb 0) (lacking granted ws) ≡ some_bare ws
unfolding some_bare
bare_lacking granted ws = same_test _ _ label word
  where
    bare : ℕ → Bool
    bare w = eqb (views_of w) 0

    label : T (any (eqb 0) (lacking granted ws)) → T (any bare ws)
    label t =
        let (v, m, z) = (any_iff (eqb 0) (lacking granted ws)).0 t in
        let (w, i, e, _) = (lacking_iff granted ws v).0 m in
        let none : views_of w ≡ 0 = sym e ∙ sym (eqb-true 0 v (sym (holds_true _ z))) in
        (any_iff bare ws).1 (w, i, true_holds (eq-eqb (views_of w) 0 none))

    word : T (any bare ws) → T (any (eqb 0) (lacking granted ws))
    word t =
        let (w, i, z) = (any_iff bare ws).0 t in
        let none : views_of w ≡ 0 = eqb-true (views_of w) 0 (sym (holds_true _ z)) in
        let m = (lacking_iff granted ws 0).1 (w, i, sym none, bare_holds_none granted w none) in
        (any_iff (eqb 0) (lacking granted ws)).1 (0, m, tt)

-- one label more
last_label : (b : Bool) (w : ℕ) (l : List ℕ) → l ++ map views_of (cond (not b) (w ∷ []) []) ≡ cond b l (l ++ views_of w ∷ [])
last_label true w l = append-nil l
last_label false w l = refl

pub lacking_snoc : (granted : ℕ) (ws : List ℕ) (w : ℕ)
    → lacking granted (ws ++ w ∷ []) ≡ cond (holds_one granted w) (lacking granted ws) (lacking granted ws ++ views_of w ∷ [])
unfolding lacking keep
lacking_snoc granted ws w =
    ap (map views_of) (keep_append lacks ws (w ∷ [])) ∙ map-append views_of (keep lacks ws) (keep lacks (w ∷ []))
    ∙ last_label (holds_one granted w) w (lacking granted ws)
  where
    lacks : ℕ → Bool
    lacks x = not (holds_one granted x)

pub lacking_few : (granted : ℕ) (ws : List ℕ) → length (lacking granted ws) ≤ length ws
unfolding lacking
lacking_few granted ws = simp length-map (keep_few (λ w. not (holds_one granted w)) ws)
