-- What is left of a list at the places that pass a test, and of a query at the bits of a word.
use mathlib.Core.Path.{◌≡◌, refl, sym, ap}
use mathlib.Core.Logic.{◌≢◌, ⊎_elim}
use mathlib.Core.Bool.{Bool, true, false, cond}
use mathlib.Core.List.Memᴰ
use mathlib.Core.List.{List, [], ◌∷◌, ◌++◌, map}
use Prim.Native.Nat.{ℕ, zero, suc, ◌-◌, ◌^◌, ◌≤◌, ◌<◌, zero-le, suc-le-suc}
use native.Mathlib.Nat.{not-suc-le-zero, le_of_suc-le-suc, suc_inj, suc-ne-zero}
use native.Mathlib.Omega.{arith}
use lib.Dec.{T}
use lib.ListN.{length, get_or, take}
use mir.Facts.{eqb_yes, yes_eqb}
use Rattle.theory.specs.Query.{Line, Query, ◌∈◌}
use Rattle.theory.specs.Reduce.{without}
use Rattle.theory.proofs.Tuples.{get_d_mem}
use Rattle.words.specs.Bits.{bit, is_set}
use Rattle.words.specs.Sets.{clear_bit}
use Rattle.words.proofs.Bits.{is_clear}
use Rattle.words.proofs.ClearBits.{clear_bit_same, clear_bit_other, low_bits_set}
use Rattle.entering.specs.Agree.{line_at}
use Rattle.entering.specs.Left.{pick, lines_at}

module _ {X : Type 0} where
  -- an element that is kept or not
  cond_in : (b : Bool) (x : X) (l : List X) {y : X} → y ∈ l → y ∈ cond b (x ∷ l) l
  cond_in true x l m = Memᴰ.tail m
  cond_in false x l m = m

  cond_first : (b : Bool) (x : X) (l : List X) → T b → x ∈ cond b (x ∷ l) l
  cond_first true x l h = Memᴰ.head refl
  cond_first false x l h = absurd h

  cond_append : (b : Bool) (x : X) (k l m : List X) → k ≡ l ++ m → cond b (x ∷ k) k ≡ cond b (x ∷ l) l ++ m
  cond_append true x k l m e = ap (λ (n : List X). x ∷ n) e
  cond_append false x k l m e = e

module _ {X : Type 0} (d : X) where
  pub pick_in : (f : ℕ → Bool) (l : List X) (j : ℕ) → j < length l → T (f j) → get_or l j d ∈ pick f l
  unfolding pick
  pick_in f [] j h t = absurd (not-suc-le-zero h)
  pick_in f (x ∷ l) zero h t = cond_first (f 0) x (pick (λ k. f (suc k)) l) t
  pick_in f (x ∷ l) (suc j) h t = cond_in (f 0) x (pick (λ k. f (suc k)) l) (pick_in (λ k. f (suc k)) l j (le_of_suc-le-suc h) t)

  -- an element that is left stands at a place that passes
  abbrev Placed : (ℕ → Bool) → List X → X → Type 0
  Placed f l x = (j : ℕ) × (j < length l) × T (f j) × (get_or l j d ≡ x)

  later : (f : ℕ → Bool) (y : X) (l : List X) {x : X} → Placed (λ k. f (suc k)) l x → Placed f (y ∷ l) x
  later f y l r = (suc r.0, suc-le-suc r.1, r.2, r.3)

  kept_or_not : (f : ℕ → Bool) (y : X) (l : List X) {x : X} → x ∈ cond (f 0) (y ∷ pick (λ k. f (suc k)) l) (pick (λ k. f (suc k)) l)
      → (x ∈ pick (λ k. f (suc k)) l → Placed (λ k. f (suc k)) l x) → Placed f (y ∷ l) x
  kept_or_not f y l {x} m rest = go (f 0) refl m
    where
      go : (b : Bool) → f 0 ≡ b → x ∈ cond b (y ∷ pick (λ k. f (suc k)) l) (pick (λ k. f (suc k)) l) → Placed f (y ∷ l) x
      go true e h =
          ⊎_elim (λ p. (zero, suc-le-suc zero-le, rw e tt, sym p)) (λ t. later f y l (rest t)) (Memᴰ.cases_cons h)
      go false e h = later f y l (rest h)

  pub in_pick : (f : ℕ → Bool) (l : List X) {x : X} → x ∈ pick f l → Placed f l x
  unfolding pick
  in_pick f [] m = absurd (Memᴰ.not-nil m)
  in_pick f (y ∷ l) m = kept_or_not f y l m (λ t. in_pick (λ k. f (suc k)) l t)

  pub pick_more : (f : ℕ → Bool) (l : List X) (i : ℕ) → i < length l
      → pick f (take (suc i) l) ≡ pick f (take i l) ++ cond (f i) (get_or l i d ∷ []) []
  unfolding pick
  pick_more f [] i h = absurd (not-suc-le-zero h)
  pick_more f (x ∷ l) zero h = refl
  pick_more f (x ∷ l) (suc i) h =
      let g : ℕ → Bool = λ k. f (suc k) in
      cond_append (f 0) x (pick g (take (suc i) l)) (pick g (take i l)) (cond (f (suc i)) (get_or l i d ∷ []) [])
      (pick_more (λ k. f (suc k)) l i (le_of_suc-le-suc h))

module _ {X : Type 0} where
  pub pick_all : (f : ℕ → Bool) (l : List X) → ((j : ℕ) → j < length l → f j ≡ true) → pick f l ≡ l
  unfolding pick
  pick_all f [] h = refl
  pick_all f (x ∷ l) h =
      rw (h 0 (suc-le-suc zero-le)) (ap (λ (m : List X). x ∷ m) (pick_all (λ k. f (suc k)) l (λ j b. h (suc j) (suc-le-suc b))))

  pub pick_same : (f g : ℕ → Bool) (l : List X) → ((j : ℕ) → f j ≡ g j) → pick f l ≡ pick g l
  unfolding pick
  pick_same f g [] h = refl
  pick_same f g (x ∷ l) h = rw (h 0, pick_same (λ k. f (suc k)) (λ k. g (suc k)) l (λ j. h (suc j)))

  pub pick_few : (f : ℕ → Bool) (l : List X) → length (pick f l) ≤ length l
  unfolding pick
  pick_few f [] = zero-le
  pick_few f (x ∷ l) = go (f 0) (pick_few (λ k. f (suc k)) l)
    where
      go : (b : Bool) → length (pick (λ k. f (suc k)) l) ≤ length l
          → length (cond b (x ∷ pick (λ k. f (suc k)) l) (pick (λ k. f (suc k)) l)) ≤ suc (length l)
      go true h = suc-le-suc h
      go false h = omega (arith, h)

  -- taking out the element at a place before which all pass
  pub pick_without : (f g : ℕ → Bool) (l : List X) (i : ℕ) → i < length l → ((j : ℕ) → j ≤ i → f j ≡ true) → g i ≡ false
      → ((j : ℕ) → j ≢ i → g j ≡ f j) → without i (pick f l) ≡ pick g l
  unfolding pick
  pick_without f g [] i h a e s = absurd (not-suc-le-zero h)
  pick_without f g (x ∷ l) zero h a e s =
      rw (a 0 zero-le, e) (sym (pick_same (λ k. g (suc k)) (λ k. f (suc k)) l (λ j. s (suc j) (suc-ne-zero j))))
  pick_without f g (x ∷ l) (suc i) h a e s =
      rw (a 0 zero-le, s 0 (λ p. suc-ne-zero i (sym p)))
      (rw (a 0 zero-le) (ap (λ (m : List X). x ∷ m)
      (pick_without (λ k. f (suc k)) (λ k. g (suc k)) l i (le_of_suc-le-suc h) (λ j b. a (suc j) (suc-le-suc b)) e
      (λ j n. s (suc j) (λ p. n (suc_inj p))))))

pub pick_map : {X Y : Type 0} (g : X → Y) (f : ℕ → Bool) (l : List X) → pick f (map g l) ≡ map g (pick f l)
unfolding pick
pick_map g f [] = refl
pick_map {Y = Y} g f (x ∷ l) = go (f 0) (pick_map g (λ k. f (suc k)) l)
  where
    go : (b : Bool) → pick (λ k. f (suc k)) (map g l) ≡ map g (pick (λ k. f (suc k)) l)
        → cond b (g x ∷ pick (λ k. f (suc k)) (map g l)) (pick (λ k. f (suc k)) (map g l))
        ≡ map g (cond b (x ∷ pick (λ k. f (suc k)) l) (pick (λ k. f (suc k)) l))
    go true e = ap (λ (m : List Y). g x ∷ m) e
    go false e = e

-- ---- lines at the bits of a word

module _ (w : ℕ) (Q : Query) where
  pub in_lines : (j : ℕ) → j < length Q → bit w j ≡ 1 → line_at Q j ∈ lines_at w Q
  unfolding lines_at line_at
  in_lines j h e = pick_in (record { table = 0; columns = [] }) (is_set w) Q j h (yes_eqb e)

  pub lines_in_lem : {A : Line} → A ∈ lines_at w Q → (j : ℕ) × (j < length Q) × (bit w j ≡ 1) × (line_at Q j ≡ A)
  unfolding lines_at line_at
  lines_in_lem m = let (j, h, t, e) = in_pick (record { table = 0; columns = [] }) (is_set w) Q m in (j, h, eqb_yes t, e)

  pub lines_subset : {A : Line} → A ∈ lines_at w Q → A ∈ Q
  unfolding line_at
  lines_subset m =
      let (j, h, t, e) = lines_in_lem m in
      rw (← e) (get_d_mem Q j (record { table = 0; columns = [] }) h)

  pub lines_without : (i : ℕ) → i < length Q → ((j : ℕ) → j ≤ i → bit w j ≡ 1) → without i (lines_at w Q) ≡ lines_at (clear_bit w i) Q
  unfolding lines_at
  lines_without i h a =
      pick_without (is_set w) (is_set (clear_bit w i)) Q i h (λ j b. rw (a j b)) (is_clear (clear_bit w i) i (clear_bit_same w i))
      (λ j n. rw (clear_bit_other w i j n))

pub lines_all : (Q : Query) (n : ℕ) → length Q ≡ n → lines_at (2 ^ n - 1) Q ≡ Q
unfolding lines_at
lines_all Q n e = pick_all (is_set (2 ^ n - 1)) Q (λ j h. rw (low_bits_set n j (rw (← e) h)))
