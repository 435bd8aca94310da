-- The values of good things with unused entries behind them, place by place.
use mathlib.Core.Path.{◌≡◌, refl, sym, ap, ap₂, ◌∙◌, subst}
use mathlib.Core.Logic.{◌↔◌, by_cases}
use mathlib.Core.Bool.{Bool, true, false}
use mathlib.Core.List.Memᴰ
use mathlib.Core.List.{List, [], ◌∷◌, ◌++◌, map}
use Prim.Native.Nat.{ℕ, zero, suc, ◌-◌, ◌≤◌, ◌<◌, zero-le, suc-le-suc}
use native.Mathlib.Nat.{not-suc-le-zero, le_of_suc-le-suc, sub-zero, suc-sub-suc}
use native.Mathlib.Decide.{dec_lt}
use native.Mathlib.Omega.{arith}
use lib.Dec.{ltb}
use lib.ListN.{length, get_or, replicate, length-map, get_or-eq_default}
use borrow.Author.Tests.{lt-ltb, le-ltb}
use Rattle.theory.specs.Query.{◌∈◌}
use Rattle.model.specs.Value.{pad}
use Rattle.text.proofs.Each.{Each, each_nil, each_cons}
use Rattle.validity.specs.Parts.{ValueOf, Place, HoldsList}
use Rattle.validity.proofs.Lists.{all_same, any_default}
use Rattle.model.proofs.Pad.{pad_length, pad_get}

-- ---- a place

module _ {X : Type 0} (Used : X → Type 0) (unused : X) where
  pub used_iff : (used : Bool) → used ≡ true → {P : Type 0} {x : X} → P ↔ Used x → P ↔ Place Used unused used x
  used_iff used e h = rw e h

  pub unused_iff : (used : Bool) → used ≡ false → {P : Type 0} {x : X} → P ↔ (x ≡ unused) → P ↔ Place Used unused used x
  unused_iff used e h = rw e h

module _ {X : Type 0} (Used : X → Type 0) (unused : X) (k n : ℕ) where
  pub place_used : {x : X} → k < n → Place Used unused (ltb k n) x → Used x
  place_used h p = rw (lt-ltb k n h) at p

  pub place_unused : {x : X} → n ≤ k → Place Used unused (ltb k n) x → x ≡ unused
  place_unused h p = rw (le-ltb k n h) at p

  pub used_place : {x : X} → k < n → Used x → Place Used unused (ltb k n) x
  used_place h u = rw (lt-ltb k n h) u

  pub unused_place : {x : X} → n ≤ k → x ≡ unused → Place Used unused (ltb k n) x
  unused_place h e = rw (le-ltb k n h) e

-- what the code finds of a list: from 1 to the most used places, and each place as it should be. A read behind the list's
-- end would give d.
pub record Checked {X : Type 0} (most : ℕ) (Right : Bool → X → Type 0) (d : X) (n : ℕ) (l : List X) : Type 0 where
  pub counted : (1 ≤ n) × (n ≤ most)
  pub places : (k : ℕ) → k < most → Right (ltb k n) (get_or l k d)

pub checked_default : {X : Type 0} {most : ℕ} {Right : Bool → X → Type 0} {d : X} (e : X) {n : ℕ} {l : List X} → length l ≡ most
    → Checked most Right d n l → Checked most Right e n l
checked_default {Right = Right} {d = d} e {n} {l} long c =
    record {
      counted = c.counted;
      places = λ k h. subst (λ (x : _). Right (ltb k n) x) (any_default d e l k (rw long h)) (c.places k h);
    }

module _ {A X : Type 0} (Good : A → Type 0) (value : A → X) (unused : X) where
  -- ---- from the places to the list

  record Collected (n : ℕ) (l : List X) : Type 0 where
    things : List A
    each : Each Good things
    count : length things ≡ n
    is : l ≡ map value things ++ replicate (length l - n) unused

  collect : (n : ℕ) (l : List X) → n ≤ length l → ((k : ℕ) → k < n → ValueOf Good value (get_or l k unused))
      → ((k : ℕ) → n ≤ k → k < length l → get_or l k unused ≡ unused) → Collected n l
  collect zero l h used rest =
      record { things = []; each = each_nil Good; count = refl; is = rw sub-zero (all_same unused l (λ k. rest k zero-le)) }
  collect (suc n) [] h used rest = absurd (not-suc-le-zero h)
  collect (suc n) (x ∷ l) h used rest =
      let first = used 0 (omega arith) in
      let more =
      collect n l (le_of_suc-le-suc h) (λ k b. used (suc k) (suc-le-suc b)) (λ k a b. rest (suc k) (suc-le-suc a) (suc-le-suc b))
      in
      record {
        things = first.thing ∷ more.things;
        each = each_cons Good first.thing more.things first.good more.each;
        count = ap suc more.count;
        is = rw suc-sub-suc (ap₂ ◌∷◌ first.is more.is);
      }

  pub checked_held : (most n : ℕ) (l : List X) → length l ≡ most → Checked most (Place (ValueOf Good value) unused) unused n l
      → HoldsList most Good value unused n l
  unfolding pad
  checked_held most n l long c =
      let all =
      collect n l (omega arith) (λ k h. place_used (ValueOf Good value) unused k n h (c.places k (omega arith)))
      (λ k h b. place_unused (ValueOf Good value) unused k n h (c.places k (omega arith)))
      in
      let rest : length l - n ≡ most - length (map value all.things) = rw (length-map, all.count, long) in
      record {
        things = all.things;
        listed = record { nonempty = rw all.count c.counted.0; few = rw all.count c.counted.1; each = all.each };
        count = sym all.count;
        is = all.is ∙ ap (λ (k : ℕ). map value all.things ++ replicate k unused) rest;
      }

  -- ---- from the list to the places

  -- what stands at a place is the value of one of the things
  value_at : (xs : List A) (k : ℕ) → k < length xs → (a : A) × (a ∈ xs) × (get_or (map value xs) k unused ≡ value a)
  value_at [] k h = absurd (not-suc-le-zero h)
  value_at (a ∷ xs) zero h = (a, Memᴰ.head refl, refl)
  value_at (a ∷ xs) (suc k) h = let r = value_at xs k (le_of_suc-le-suc h) in (r.0, Memᴰ.tail r.1, r.2)

  at_value : {a : A} {xs : List A} → a ∈ xs → (k : ℕ) × (k < length xs) × (get_or (map value xs) k unused ≡ value a)
  at_value (Memᴰ.head e) = (0, suc-le-suc zero-le, ap value (sym e))
  at_value (Memᴰ.tail m) = let r = at_value m in (suc r.0, suc-le-suc r.1, r.2)

  module _ (most n : ℕ) (l : List X) (h : HoldsList most Good value unused n l) where
    held_get : (k : ℕ) → get_or l k unused ≡ get_or (map value h.things) k unused
    held_get k = ap (λ (s : List X). get_or s k unused) h.is ∙ pad_get most unused (map value h.things) k

    held_at : (k : ℕ) → Place (ValueOf Good value) unused (ltb k n) (get_or l k unused)
    held_at k =
        by_cases (dec_lt k n)
        (λ b.
        let r = value_at h.things k (rw h.count at b) in
        used_place (ValueOf Good value) unused k n b
        (record { thing = r.0; good = h.listed.each r.0 r.1; is = held_get k ∙ r.2 }))
        (λ b.
        let behind : length (map value h.things) ≤ k = rw (length-map, ← h.count) (omega arith) in
        unused_place (ValueOf Good value) unused k n (omega arith)
        (held_get k ∙ get_or-eq_default (map value h.things) unused behind))

    pub held_length : length l ≡ most
    held_length = ap length h.is ∙ pad_length most unused (map value h.things) (rw length-map h.listed.few)

    pub held_checked : Checked most (Place (ValueOf Good value) unused) unused n l
    held_checked =
        record { counted = (rw h.count h.listed.nonempty, rw h.count h.listed.few); places = λ k b. held_at k }

    -- each of the things has its place
    pub held_place : (a : A) → a ∈ h.things → (k : ℕ) × (k < n) × (get_or l k unused ≡ value a)
    held_place a m = let r = at_value m in (r.0, rw h.count r.1, held_get r.0 ∙ r.2)

    -- what stands at a used place is one of the things
    pub held_thing : (k : ℕ) → k < n → (a : A) × (a ∈ h.things) × (get_or l k unused ≡ value a)
    held_thing k b = let r = value_at h.things k (rw h.count at b) in (r.0, r.1, held_get k ∙ r.2)
