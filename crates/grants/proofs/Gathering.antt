-- Words gathered from the first label to the last, and for each view the words that hold it.
use mathlib.Core.Path.{◌≡◌, sym, ap, ◌∙◌}
use mathlib.Core.Bool.{Bool, true, false, cond}
use mathlib.Core.List.{List, [], ◌∷◌, ◌++◌, map}
use Prim.Native.Nat.{ℕ, suc, ◌+◌, ◌/◌, ◌^◌, ◌≤◌, ◌<◌}
use native.Mathlib.Decide.{ℕ_discrete}
use native.Mathlib.Omega.{arith}
use lib.ListN.{length, get_or, take, set, length-set}
use lib.Seq.{length-take-le, take-suc, take_all, get_or-set_same, get_or-set_other}
use Rattle.words.specs.Bits.{is_set, half_bits}
use Rattle.words.specs.Sets.{set_bit, meet}
use Rattle.words.specs.TestBits.{test_bits, up_from}
use Rattle.words.proofs.TestBits.{tests_more, made_of}
use Rattle.model.specs.Limits.{most_views}
use Rattle.word_list.specs.Value.{words_value}
use Rattle.word_list.specs.declared.Words.{Words}
use Rattle.labelling.specs.Settled.{holds_one}
use Rattle.explain.specs.Explanation.{views_of, lacking}
use Rattle.grants.specs.Searching.{holding, hits_of}
use Rattle.grants.proofs.Lacking.{lacking_snoc}

-- the first words, and one more
first_more : (ws : List ℕ) (i : ℕ) → i < length ws → take (i + 1) ws ≡ take i ws ++ get_or ws i 0 ∷ []
first_more ws i h = let one : i + 1 ≡ suc i = omega arith in ap (λ (k : ℕ). take k ws) one ∙ take-suc ws i 0 h

-- ---- the labels that hold no granted view

-- r is those among the first labels
pub record LackingTo (granted : ℕ) (labels : List ℕ) (i : ℕ) (r : Words) : Type 0 where
  pub few : r.count ≤ i
  pub words : r ≡ words_value (lacking granted (take i labels))

module _ (granted : ℕ) (labels : List ℕ) {r : Words} where
  pub lacking_none : r ≡ words_value [] → LackingTo granted labels 0 r
  unfolding words_value lacking
  lacking_none e = record { few = omega (arith, ap (λ (w : Words). w.count) e); words = e }

  module _ {i views : ℕ} (h : i < length labels) (v : views ≡ get_or labels i 0 / 2 ^ half_bits) (t : LackingTo granted labels i r) where
    -- the label at place i holds a granted view or not, and is put behind the others or not
    next_label : lacking granted (take (i + 1) labels)
        ≡ cond (meet 64 views granted) (lacking granted (take i labels)) (lacking granted (take i labels) ++ views ∷ [])
    unfolding holds_one views_of
    next_label =
        ap (lacking granted) (first_more labels i h) ∙ lacking_snoc granted (take i labels) (get_or labels i 0)
        ∙ ap (λ (x : ℕ). cond (meet 64 x granted) (lacking granted (take i labels)) (lacking granted (take i labels) ++ x ∷ [])) (sym v)

    pub lacking_kept : {same : Words} → meet 64 views granted ≡ true → same ≡ r → LackingTo granted labels (i + 1) same
    lacking_kept m q =
        record { few = omega (arith, t.few, ap (λ (w : Words). w.count) q); words = rw (next_label, m) (q ∙ t.words) }

    pub lacking_more : {pushed more : Words} → meet 64 views granted ≡ false → pushed.count ≡ r.count + 1
        → ((k : List ℕ) → r ≡ words_value k → pushed ≡ words_value (k ++ views ∷ [])) → more ≡ pushed
        → LackingTo granted labels (i + 1) more
    lacking_more m one put q = record {
      few = omega (arith, t.few, one, ap (λ (w : Words). w.count) q);
      words = rw (next_label, m) (q ∙ put (lacking granted (take i labels)) t.words);
    }

  pub lacking_all : {i : ℕ} → length labels ≤ i → LackingTo granted labels i r → r ≡ words_value (lacking granted labels)
  lacking_all {i} h t = t.words ∙ ap (λ (k : List ℕ). words_value (lacking granted k)) (take_all i labels h)

-- ---- the words that hold a view

module _ (v : ℕ) (words : List ℕ) where
  -- of the first words
  abbrev pub HoldingTo : ℕ → ℕ → Type 0
  HoldingTo i word = word ≡ holding (take i words) v

  pub holding_more : {i word more : ℕ} {on : Bool} → i < length words → on ≡ is_set (get_or words i 0) v
      → more ≡ cond on (set_bit word i) word → HoldingTo i word → HoldingTo (i + 1) more
  unfolding holding
  holding_more {i} {word} {more} {on} h is made t =
      let f : ℕ → Bool = λ w. is_set w v in
      let next = tests_more f (take i words) (get_or words i 0) in
      made ∙ ap (λ (b : Bool). cond b (set_bit word i) word) is
      ∙ ap (λ (w : ℕ). cond (f (get_or words i 0)) (set_bit w i) w) t
      ∙ ap (λ (k : ℕ). cond (f (get_or words i 0)) (set_bit (test_bits f (take i words)) k) (test_bits f (take i words)))
      (sym (length-take-le i words (omega (arith, h))))
      ∙ sym next ∙ ap (test_bits f) (sym (first_more words i h))

  pub holding_all : {i word : ℕ} → length words ≤ i → HoldingTo i word → word ≡ holding words v
  holding_all {i} h t = t ∙ ap (λ (k : List ℕ). holding k v) (take_all i words h)

-- ---- each view

-- the views before place v
pub record HitsTo (l : Words) (hits : List ℕ) (v : ℕ) : Type 0 where
  pub long : length hits ≡ most_views
  pub each : (ws : List ℕ) → l ≡ words_value ws → (k : ℕ) → k < v → get_or hits k 0 ≡ holding ws k

pub hits_more : {l : Words} {hits : List ℕ} {v word : ℕ} → v < most_views → ((ws : List ℕ) → l ≡ words_value ws → word ≡ holding ws v)
    → HitsTo l hits v → HitsTo l (set hits v word) (v + 1)
hits_more {l} {hits} {v} {word} h is t = record {
  long = length-set hits v word ∙ t.long;
  each = λ ws e k b. at ws e k b (ℕ_discrete k v);
}
  where
    at : (ws : List ℕ) → l ≡ words_value ws → (k : ℕ) → k < v + 1 → Dec (k ≡ v) → get_or (set hits v word) k 0 ≡ holding ws k
    at ws e k b (yes q) =
        ap (λ (x : ℕ). get_or (set hits v word) x 0) q ∙ get_or-set_same hits v word 0 (omega (arith, h, t.long)) ∙ is ws e
        ∙ ap (holding ws) (sym q)
    at ws e k b (no n) = get_or-set_other hits v k word 0 n ∙ t.each ws e k (omega (arith, b, n))

pub hits_all : {l : Words} {hits : List ℕ} {v : ℕ} → most_views ≤ v → HitsTo l hits v → (ws : List ℕ) → l ≡ words_value ws → hits ≡ hits_of ws
unfolding hits_of
hits_all {l} {hits} h t ws e =
    made_of (holding ws) 0 0 hits (λ k b. t.each ws e k (omega (arith, b, h, t.long)) ∙ ap (holding ws) (omega arith))
    ∙ ap (λ (n : ℕ). map (holding ws) (up_from 0 n)) t.long
