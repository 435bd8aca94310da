-- Lists of views: one more behind them, and the value that holds them.
use mathlib.Core.Path.{◌≡◌, refl, sym, ap, ◌∙◌}
use mathlib.Core.Logic.{◌↔◌, inl, inr, ⊎_elim}
use mathlib.Core.Bool.{Bool, ◌&&◌, and-true, and_assoc}
use mathlib.Core.List.Memᴰ
use mathlib.Core.List.{List, [], ◌∷◌, ◌++◌}
use Prim.Native.Nat.{ℕ, ◌-◌, ◌≤◌}
use native.Mathlib.Omega.{arith}
use lib.Dec.{ltb}
use borrow.Author.Tests.{lt-ltb}
use Rattle.words.specs.Bits.{bit}
use Rattle.words.specs.Sets.{set_bit}
use Rattle.words.proofs.Bits.{same_bits}
use Rattle.words.proofs.SetBits.{set_bit_iff, set_bit_below}
use Rattle.model.specs.Limits.{most_views}
use Rattle.policy_text.specs.WellFormed.{ascend}
use Rattle.policy_text.specs.Policy.{views_word}
use Rattle.policy_text.proofs.Grants.{word_bit, word_below}
use Rattle.policy_lines.specs.Value.{last_after, view_list}
use Rattle.policy_lines.specs.declared.ViewList.{ViewList}

pub last_more : (n : ℕ) (vs : List ℕ) (v : ℕ) → last_after n (vs ++ v ∷ []) ≡ v
unfolding last_after
last_more n [] v = refl
last_more n (w ∷ vs) v = last_more w vs v

-- one view more is one bit more
pub views_more : (vs : List ℕ) (v : ℕ) → 1 ≤ v → v ≤ most_views → views_word (vs ++ v ∷ []) ≡ set_bit (views_word vs) (v - 1)
views_more vs v a b =
    same_bits most_views (views_word (vs ++ v ∷ [])) (set_bit (views_word vs) (v - 1)) (word_below (vs ++ v ∷ []))
    (set_bit_below most_views (views_word vs) (v - 1) (word_below vs) (omega arith)) each
  where
    each : (k : ℕ) → (bit (views_word (vs ++ v ∷ [])) k ≡ 1) ↔ (bit (set_bit (views_word vs) (v - 1)) k ≡ 1)
    each k =
        let more = word_bit (vs ++ v ∷ []) k in
        let set = set_bit_iff (views_word vs) (v - 1) k in (
          λ h.
              let (l, m) = more.0 h in
              set.1 (⊎_elim (λ i. inl ((word_bit vs k).1 (l, i))) (λ i. inr (omega (arith, Memᴰ.eq_of_singleton i)))
              (Memᴰ.append_cases vs m)),
          λ h.
              ⊎_elim (λ e. let (l, m) = (word_bit vs k).0 e in more.1 (l, Memᴰ.append_left (v ∷ []) m))
              (λ e. more.1 (omega (arith, e), Memᴰ.append_right vs (Memᴰ.head (omega (arith, e))))) (set.0 h),
        )

pub ascend_more : (vs : List ℕ) (v : ℕ) → 1 ≤ v → ascend (vs ++ v ∷ []) ≡ (ascend vs && ltb (last_after 0 vs) v)
unfolding ascend last_after
ascend_more [] v h = sym (lt-ltb 0 v h)
ascend_more (w ∷ []) v h = and-true (ltb w v)
ascend_more (w ∷ x ∷ vs) v h = rw (ascend_more (x ∷ vs) v h) (sym (and_assoc (ltb w x) (ascend (x ∷ vs)) (ltb (last_after x vs) v)))

-- the value of one view more
pub listed_more : (l : ViewList) (v m : ℕ) (a : Bool) → 1 ≤ v → v ≤ most_views → a ≡ (l.ascending && ltb l.last v)
    → m ≡ set_bit l.views (v - 1) → (vs : List ℕ) → l ≡ view_list vs
    → record { ok = l.ok; outside = l.outside; ascending = a; views = m; last = v } ≡ view_list (vs ++ v ∷ [])
unfolding view_list
listed_more l v m a h few ea em vs e =
    let rises : a ≡ ascend (vs ++ v ∷ []) = ea ∙ rw (e, ascend_more vs v h) in
    let bits : m ≡ views_word (vs ++ v ∷ []) = em ∙ rw (e, views_more vs v h few) in
    λ i.
    record {
      ok = ap (λ (x : ViewList). x.ok) e i;
      outside = ap (λ (x : ViewList). x.outside) e i;
      ascending = rises i;
      views = bits i;
      last = sym (last_more 0 vs v) i;
    }
