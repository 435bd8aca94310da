-- The words of an explanation, gathered from the last label to the first.
use mathlib.Core.Path.{◌≡◌, refl, sym, ap, ◌∙◌}
use mathlib.Core.Bool.{Bool, true, false, cond, not, ◌&&◌}
use mathlib.Core.List.{List, [], ◌∷◌, ◌++◌, map, reverse, reverse-cons, append_assoc, append-nil}
use Rattle.std.proofs.lemmas.List.{nil_from_length}
use Prim.Native.Nat.{ℕ, ◌+◌, ◌/◌, ◌^◌, ◌≤◌}
use native.Mathlib.Omega.{arith}
use lib.Bits.{bit_and}
use lib.Dec.{eqb}
use lib.ListN.{length, take, length-append}
use lib.Seq.{length-take-le}
use Rattle.words.specs.Bits.{half_bits}
use Rattle.theory.specs.Executable.Test.{any}
use Rattle.words.specs.Sets.{meet}
use Rattle.word_list.specs.Value.{words_value}
use Rattle.word_list.specs.declared.Words.{Words}
use Rattle.word_list.proofs.Value.{words_are}
use Rattle.labelling.specs.Settled.{holds_one}
use Rattle.explain.specs.Explanation.{views_of, distinct, keep, least, lacking}
use Rattle.explain.specs.Telling.{is_least, is_told}
use Rattle.explain.proofs.Distinct.{distinct_more}
use Rattle.explain.proofs.Lacking.{passes, keep_lacking}

-- ---- the words so far

-- r is the words that are made of the labels behind those that are left, among all labels, and no more of them
pub record Gathered (made : List ℕ → List ℕ → List ℕ) (l : Words) (left : List ℕ) (r : Words) : Type 0 where
  pub behind : List ℕ
  pub all : left ++ behind ≡ take l.count l.words
  pub few : r.count ≤ length behind
  pub words : (ws : List ℕ) → l ≡ words_value ws → r ≡ words_value (made ws behind)

module _ {made : List ℕ → List ℕ → List ℕ} {l : Words} {left : List ℕ} {r : Words} where
  pub gathered_none : left ≡ take l.count l.words → r ≡ words_value [] → ((ws : List ℕ) → made ws [] ≡ []) → Gathered made l left r
  unfolding words_value
  gathered_none e none empty =
      record {
        behind = [];
        all = append-nil left ∙ e;
        few = omega (arith, ap (λ (w : Words). w.count) none);
        words = λ ws q. none ∙ ap words_value (sym (empty ws));
      }

  pub gathered_few : Gathered made l left r → l.count ≤ length l.words → length left + r.count ≤ l.count
  gathered_few h n = omega (arith, h.few, simp length-append at (ap length h.all), length-take-le l.count l.words n)

  pub gathered_more : (next : List ℕ) (w : ℕ) (s : Words) (h : Gathered made l left r) → left ≡ next ++ w ∷ [] → s.count ≤ r.count + 1
      → ((ws : List ℕ) → l ≡ words_value ws → s ≡ words_value (made ws (w ∷ h.behind))) → Gathered made l next s
  gathered_more next w s h e n f =
      record {
        behind = w ∷ h.behind;
        all = sym (append_assoc next (w ∷ []) h.behind) ∙ ap (λ (m : List ℕ). m ++ h.behind) (sym e) ∙ h.all;
        few = omega (arith, h.few, n);
        words = f;
      }

  pub gathered_all : Gathered made l left r → length left ≡ 0 → (ws : List ℕ) → l ≡ words_value ws → r ≡ words_value (made ws ws)
  gathered_all h none ws e =
      let behind : h.behind ≡ take l.count l.words = ap (λ (m : List ℕ). m ++ h.behind) (sym (nil_from_length left none)) ∙ h.all in
      h.words ws e ∙ ap (λ (m : List ℕ). words_value (made ws m)) (behind ∙ words_are l ws e)

-- ---- what is gathered

module _ (granted : ℕ) where
  -- the granted views of labels
  abbrev pub granted_of : List ℕ → List ℕ → List ℕ
  granted_of all ws = reverse (map (λ w. bit_and (views_of w) granted) ws)

  -- the least views of those labels that hold no granted view
  abbrev pub lacking_of : List ℕ → List ℕ → List ℕ
  lacking_of all ws = reverse (distinct (keep (is_least granted all) (lacking granted ws)))

  pub lacking_none : (all : List ℕ) → lacking_of all [] ≡ []
  unfolding lacking keep distinct
  lacking_none all = refl

  pub lacking_all : (ws : List ℕ) → lacking_of ws ws ≡ reverse (distinct (least (lacking granted ws)))
  unfolding least
  lacking_all ws = refl

  -- ---- a label

  module _ (w views : ℕ) (v : views ≡ w / 2 ^ half_bits) where
    pub label_passes : (f : ℕ → Bool) → passes granted f w ≡ (not (meet 64 views granted) && f views)
    unfolding holds_one views_of
    label_passes f = sym (ap (λ (x : ℕ). not (meet 64 x granted) && f x) v)

    module _ (all ws : List ℕ) where
      pub granted_more : granted_of all (w ∷ ws) ≡ granted_of all ws ++ bit_and views granted ∷ []
      unfolding views_of
      granted_more =
          reverse-cons (bit_and (views_of w) granted) (map (λ x. bit_and (views_of x) granted) ws)
          ∙ ap (λ (x : ℕ). granted_of all ws ++ bit_and x granted ∷ []) (sym v)

      kept : List ℕ
      kept = keep (is_least granted all) (lacking granted ws)

      next : keep (is_least granted all) (lacking granted (w ∷ ws)) ≡ cond (is_told granted all views) (views ∷ kept) kept
      unfolding views_of kept
      next =
          let f = is_least granted all in
          keep_lacking granted f w ws
          ∙ ap (λ (b : Bool). cond b (views_of w ∷ kept) kept) (label_passes f)
          ∙ ap (λ (x : ℕ). cond (is_told granted all views) (x ∷ kept) kept) (sym v)

      pub lacking_told : is_told granted all views ≡ true →
          let r = lacking_of all ws in
          lacking_of all (w ∷ ws) ≡ cond (any (eqb views) r) r (r ++ views ∷ [])
      unfolding kept
      lacking_told t = ap (λ (x : List ℕ). reverse (distinct x)) (rw t at next) ∙ distinct_more views kept

      pub lacking_untold : is_told granted all views ≡ false → lacking_of all (w ∷ ws) ≡ lacking_of all ws
      unfolding kept
      lacking_untold t = ap (λ (x : List ℕ). reverse (distinct x)) (rw t at next)
