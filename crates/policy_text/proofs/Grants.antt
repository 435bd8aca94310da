-- Which partitions grant a view and which views a partition lists, as words; and the partitions back from the words.
use mathlib.Core.Path.{◌≡◌, refl, sym, ap, subst, ◌∙◌}
use mathlib.Core.Logic.{◌↔◌, ⊎_elim}
use mathlib.Core.Bool.{Bool, true, false, cond}
use mathlib.Core.List.Memᴰ
use mathlib.Core.List.{List, [], ◌∷◌, ◌++◌, map, append-nil}
use mathlib.Core.Option.{some, some-injective}
use Prim.Native.Nat.{ℕ, zero, suc, ◌+◌, ◌-◌, ◌^◌, ◌≤◌, ◌<◌}
use native.Mathlib.Decide.{ℕ_discrete}
use native.Mathlib.Omega.{arith}
use borrow.Author.Tests.{eq-eqb, eqb-true}
use lib.Dec.{T, eqb, eqb→eq}
use lib.ListN.{length, get_or, get_elem?}
use Rattle.theory.specs.Query.{◌∈◌}
use Rattle.theory.proofs.Lists.{place_below}
use Rattle.theory.proofs.Executable.Test.{any_iff}
use Rattle.words.specs.Bits.{bit, is_set}
use Rattle.words.specs.TestBits.{test_bits, up_from}
use Rattle.words.proofs.Answers.{true_holds, holds_true, same_answer}
use Rattle.words.proofs.Bits.{is_set_lem, same_bits}
use Rattle.words.proofs.TestBits.{tests_bit, tests_below, up_from_length, from_at, at_from, from_get}
use Rattle.model.specs.Limits.{most_views}
use Rattle.model.proofs.Limits.{up_to_iff}
use Rattle.policy_text.specs.WellFormed.{ascend, GoodPartition}
use Rattle.policy_text.specs.Policy.{lists, grants_of, views_word}
use Rattle.policy_text.specs.Abstract.{views_in, granted_at}
use Rattle.policy_text.proofs.Ascend.{ascend_append, ascend_unique}

-- ---- the words

pub lists_iff : (ns : List ℕ) (n : ℕ) → T (lists ns n) ↔ (n ∈ ns)
unfolding lists
lists_iff ns n =
    let s = any_iff (eqb n) ns in (
      λ t. let (x, m, e) = s.0 t in subst (λ (y : ℕ). y ∈ ns) (sym (eqb→eq n x e)) m,
      λ m. s.1 (n, m, true_holds (eq-eqb n n refl)),
    )

-- partition i, counted from 0, grants the view where it lists it
pub grants_bit : (ps : List (List ℕ)) (n i : ℕ) → (bit (grants_of ps n) i ≡ 1) ↔ ((ns : List ℕ) × (get_elem? ps i ≡ some ns) × (n ∈ ns))
unfolding grants_of
grants_bit ps n i =
    let t = tests_bit (λ ns. lists ns n) ps i in (
      λ h. let (ns, e, l) = t.0 h in (ns, e, (lists_iff ns n).0 l),
      λ r. t.1 (r.0, r.1, (lists_iff r.0 n).1 r.2),
    )

pub grants_below : (ps : List (List ℕ)) (n : ℕ) → grants_of ps n < 2 ^ length ps
unfolding grants_of
grants_below ps n = tests_below (λ ns. lists ns n) ps

-- bit k of a partition's word is view k + 1
pub word_bit : (ns : List ℕ) (k : ℕ) → (bit (views_word ns) k ≡ 1) ↔ ((k < most_views) × (k + 1 ∈ ns))
unfolding views_word
word_bit ns k =
    let t = tests_bit (lists ns) (up_from 1 most_views) k in (
      λ h.
          let (n, e, l) = t.0 h in
          let same : n ≡ k + 1 = from_at 1 most_views k n e ∙ omega arith in
          (rw up_from_length at (place_below (up_from 1 most_views) k e), subst (λ (x : ℕ). x ∈ ns) same ((lists_iff ns n).0 l)),
      λ r.
          let e : get_elem? (up_from 1 most_views) k ≡ some (k + 1) = at_from 1 most_views k r.0 ∙ ap some (omega arith) in
          t.1 (k + 1, e, (lists_iff ns (k + 1)).1 r.1),
    )

pub word_says : (ns : List ℕ) (k : ℕ) → k < most_views → is_set (views_word ns) k ≡ lists ns (k + 1)
word_says ns k h =
    same_answer (is_set (views_word ns) k) (lists ns (k + 1))
    (λ t. sym (holds_true _ ((lists_iff ns (k + 1)).1 ((word_bit ns k).0 (eqb-true _ _ t)).1)))
    (λ t. is_set_lem (views_word ns) k ((word_bit ns k).1 (h, (lists_iff ns (k + 1)).0 (true_holds t))))

pub word_below : (ns : List ℕ) → views_word ns < 2 ^ most_views
unfolding views_word
word_below ns = subst (λ (n : ℕ). views_word ns < 2 ^ n) (up_from_length 1 most_views) (tests_below (lists ns) (up_from 1 most_views))

-- the word of the view at a place
pub grants_at : (ps : List (List ℕ)) (k : ℕ) → k < most_views → get_or (map (grants_of ps) (up_from 1 most_views)) k 0 ≡ grants_of ps (k + 1)
grants_at ps k h = from_get (grants_of ps) 0 1 most_views k h ∙ ap (grants_of ps) (omega arith)

-- ---- the views that pass a test

only_last : (b : Bool) (n v : ℕ) → v ∈ cond b (suc n ∷ []) [] → (v ≡ suc n) × T b
only_last true n v i = (Memᴰ.eq_of_singleton i, tt)
only_last false n v i = absurd (Memᴰ.not-nil i)

ascend_last : (b : Bool) (vs : List ℕ) (n : ℕ) → T (ascend vs) → ((w : ℕ) → w ∈ vs → w ≤ n) → T (ascend (vs ++ cond b (suc n ∷ []) []))
ascend_last true vs n h below = ascend_append vs (suc n) h (λ w i. let k = below w i in omega arith)
ascend_last false vs n h below = rw append-nil h

module _ (f : ℕ → Bool) where
  -- v is from 1 to n, and passes
  pub in_views : (n v : ℕ) → v ∈ views_in n f → (1 ≤ v) × (v ≤ n) × T (f (v - 1))
  unfolding views_in
  in_views zero v i = absurd (Memᴰ.not-nil i)
  in_views (suc n) v i =
      ⊎_elim (λ j. let (a, b, t) = in_views n v j in (a, omega arith, t)) (λ j. last (only_last (f n) n v j))
      (Memᴰ.append_cases (views_in n f) i)
    where
      last : (v ≡ suc n) × T (f n) → (1 ≤ v) × (v ≤ suc n) × T (f (v - 1))
      last (e, t) = (omega arith, omega arith, subst (λ (k : ℕ). T (f k)) (omega arith) t)

  pub views_in_lem : (n v : ℕ) → 1 ≤ v → v ≤ n → T (f (v - 1)) → v ∈ views_in n f
  unfolding views_in
  views_in_lem zero v h l t = absurd (omega (arith, h, l))
  views_in_lem (suc n) v h l t = go (ℕ_discrete v (suc n)) (λ k. views_in_lem n v h k t)
    where
      go : Dec (v ≡ suc n) → (v ≤ n → v ∈ views_in n f) → v ∈ views_in (suc n) f
      go (yes e) lower =
          let passes : f n ≡ true = sym (holds_true (f n) (subst (λ (k : ℕ). T (f k)) (omega (arith, e)) t)) in
          rw passes (Memᴰ.append_right (views_in n f) (Memᴰ.head e))
      go (no d) lower = Memᴰ.append_left _ (lower (omega (arith, l, d)))

  pub views_ascend : (n : ℕ) → T (ascend (views_in n f))
  unfolding views_in ascend
  views_ascend zero = tt
  views_ascend (suc n) = ascend_last (f n) (views_in n f) n (views_ascend n) (λ w i. (in_views n w i).1)

-- ---- a partition back from the words

pub good_below : (n : ℕ) (vs : List ℕ) → GoodPartition n vs → (v : ℕ) → v ∈ vs → (1 ≤ v) × (v ≤ n)
good_below n vs g v i = (((up_to_iff most_views v).0 (g.within v i)).0, g.declared v i)

pub partition_back : (ps : List (List ℕ)) (i n : ℕ) (vs : List ℕ) → get_elem? ps i ≡ some vs → GoodPartition n vs
    → views_in most_views (granted_at (map (grants_of ps) (up_from 1 most_views)) i) ≡ vs
unfolding granted_at
partition_back ps i n vs at g =
    ascend_unique (views_in most_views granted) vs (views_ascend granted most_views) g.ascending same
  where
    granted : ℕ → Bool
    granted k = is_set (get_or (map (grants_of ps) (up_from 1 most_views)) k 0) i

    -- the word that is read for view v
    word : (v : ℕ) → 1 ≤ v → v ≤ most_views → get_or (map (grants_of ps) (up_from 1 most_views)) (v - 1) 0 ≡ grants_of ps v
    word v a b = grants_at ps (v - 1) (omega arith) ∙ ap (grants_of ps) (omega arith)

    same : (v : ℕ) → (v ∈ views_in most_views granted) ↔ (v ∈ vs)
    same v = (
      λ m.
          let (a, b, t) = in_views granted most_views v m in
          let e = eqb-true _ _ (sym (holds_true _ t)) in
          let (ns, there, l) = (grants_bit ps v i).0 (ap (λ (w : ℕ). bit w i) (sym (word v a b)) ∙ e) in
          subst (λ (ws : List ℕ). v ∈ ws) (some-injective ns vs (sym there ∙ at)) l,
      λ m.
          let (a, b) = (up_to_iff most_views v).0 (g.within v m) in
          let e = (grants_bit ps v i).1 (vs, at, m) in
          views_in_lem granted most_views v a b (true_holds (is_set_lem _ i (ap (λ (w : ℕ). bit w i) (word v a b) ∙ e))),
    )

-- the views that a partition lists, gathered from the words of all views
pub word_back : (ps : List (List ℕ)) (i : ℕ) (ns : List ℕ) → get_elem? ps i ≡ some ns
    → test_bits (granted_at (map (grants_of ps) (up_from 1 most_views)) i) (up_from 0 most_views) ≡ views_word ns
unfolding granted_at
word_back ps i ns at =
    let all = up_from 0 most_views in
    same_bits most_views (test_bits granted all) (views_word ns)
    (subst (λ (n : ℕ). test_bits granted all < 2 ^ n) (up_from_length 0 most_views) (tests_below granted all))
    (word_below ns) same
  where
    granted : ℕ → Bool
    granted k = is_set (get_or (map (grants_of ps) (up_from 1 most_views)) k 0) i

    same : (k : ℕ) → (bit (test_bits granted (up_from 0 most_views)) k ≡ 1) ↔ (bit (views_word ns) k ≡ 1)
    same k =
        let t = tests_bit granted (up_from 0 most_views) k in (
          λ h.
              let (j, e, b) = t.0 h in
              let l : k < most_views = rw up_from_length at (place_below (up_from 0 most_views) k e) in
              let here : j ≡ k = from_at 0 most_views k j e ∙ omega arith in
              let set = eqb-true _ _ (sym (holds_true _ (subst (λ (x : ℕ). T (granted x)) here b))) in
              let (ms, there, m) = (grants_bit ps (k + 1) i).0 (ap (λ (w : ℕ). bit w i) (sym (grants_at ps k l)) ∙ set) in
              (word_bit ns k).1 (l, subst (λ (ws : List ℕ). k + 1 ∈ ws) (some-injective ms ns (sym there ∙ at)) m),
          λ h.
              let (l, m) = (word_bit ns k).0 h in
              let e = (grants_bit ps (k + 1) i).1 (ns, at, m) in
              let here : get_elem? (up_from 0 most_views) k ≡ some k = at_from 0 most_views k l ∙ ap some (omega arith) in
              t.1 (k, here, true_holds (is_set_lem _ i (ap (λ (w : ℕ). bit w i) (grants_at ps k l) ∙ e))),
        )
