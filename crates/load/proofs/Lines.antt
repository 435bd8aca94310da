-- A line that was read: malformed, with a number past its limit, or within its limits. One argument for the lines of all
-- three blocks.
use mathlib.Core.Path.{◌≡◌, refl, sym, ap, ◌∙◌}
use mathlib.Core.Bool.{Bool, true, false, cond, not, true≢false, false≢true}
use mathlib.Core.Option.{Option, none, some}
use Prim.Native.Nat.{ℕ, zero, suc, ◌-◌, ◌≤◌}
use native.Mathlib.Nat.{suc-ne-zero}
use native.Mathlib.Omega.{arith}
use lib.Dec.{eqb}
use borrow.Author.Tests.{eq-eqb, ne_eqb}
use Rattle.model.specs.Fields.{Numbered}
use Rattle.policy_text.specs.Text.{faulty, entered, unless, entry}
use Rattle.policy_text.specs.Declared.{Declared}
use Rattle.load.specs.Steps.{line_fault}

-- a kind of line: its flags and number, the line that says no more, and the line of an entry within its limits
pub record Kind (X L : Type 0) : Type 0 where
  pub ok : L → Bool
  pub outside : L → Bool
  pub number : L → ℕ
  pub no_more : Bool → L
  pub good : Numbered X → L
  pub test : Numbered X → Bool
  pub ok_no_more : (b : Bool) → ok (no_more b) ≡ b
  pub outside_no_more : (b : Bool) → outside (no_more b) ≡ b
  pub ok_good : (e : Numbered X) → ok (good e) ≡ true
  pub outside_good : (e : Numbered X) → outside (good e) ≡ false
  pub number_good : (e : Numbered X) → number (good e) ≡ e.number

module _ {X L : Type 0} (k : Kind X L) where
  unfoldable pub reading : Option (Numbered X) → L
  reading none = k.no_more false
  reading (some e) = cond (k.test e) (k.good e) (k.no_more true)

  -- the line is that of an entry within its limits
  pub record Within (o : Option (Numbered X)) (l : L) : Type 0 where
    pub entry : Numbered X
    pub is_entry : o ≡ some entry
    pub tested : k.test entry ≡ true
    pub line : l ≡ k.good entry

  module _ (o : Option (Numbered X)) (l : L) (read : l ≡ reading o) where
    pub within : k.ok l ≡ true → k.outside l ≡ false → Within o l
    unfolding reading
    within h g = by_line o read
      where
        by_test : (x : Numbered X) (b : Bool) → k.outside (cond b (k.good x) (k.no_more true)) ≡ false → b ≡ true
        by_test x true q = refl
        by_test x false q = absurd (true≢false (sym (k.outside_no_more true) ∙ q))

        by_line : (o' : Option (Numbered X)) → l ≡ reading o' → Within o' l
        by_line none e = absurd (false≢true (sym (k.ok_no_more false) ∙ sym (ap k.ok e) ∙ h))
        by_line (some x) e =
            let t = by_test x (k.test x) (sym (ap k.outside e) ∙ g) in
            record {
              entry = x;
              is_entry = refl;
              tested = t;
              line = e ∙ ap (λ (b : Bool). cond b (k.good x) (k.no_more true)) t;
            }

    -- the checks of an entry: its limits first
    module _ (f after : Numbered X → ℕ) (shape : (e : Numbered X) → f e ≡ cond (not (k.test e)) 2 (after e)) where
      pub malformed_fault : k.ok l ≡ false → 1 ≡ line_fault o f
      unfolding line_fault reading
      malformed_fault h = by_line o read
        where
          by_test : (x : Numbered X) (b : Bool) → k.ok (cond b (k.good x) (k.no_more true)) ≡ false → ⊥
          by_test x true g = true≢false (sym (k.ok_good x) ∙ g)
          by_test x false g = true≢false (sym (k.ok_no_more true) ∙ g)

          by_line : (o' : Option (Numbered X)) → l ≡ reading o' → 1 ≡ line_fault o' f
          by_line none e = refl
          by_line (some x) e = absurd (by_test x (k.test x) (sym (ap k.ok e) ∙ h))

      pub outside_fault : k.ok l ≡ true → k.outside l ≡ true → 2 ≡ line_fault o f
      unfolding line_fault reading
      outside_fault h g = by_line o read
        where
          by_test : (x : Numbered X) (b : Bool) → k.outside (cond b (k.good x) (k.no_more true)) ≡ true → 2 ≡ cond (not b) 2 (after x)
          by_test x true q = absurd (false≢true (sym (k.outside_good x) ∙ q))
          by_test x false q = refl

          by_line : (o' : Option (Numbered X)) → l ≡ reading o' → 2 ≡ line_fault o' f
          by_line none e = absurd (false≢true (sym (k.ok_no_more false) ∙ sym (ap k.ok e) ∙ h))
          by_line (some x) e = by_test x (k.test x) (sym (ap k.outside e) ∙ g) ∙ sym (shape x)

      pub within_fault : (w : Within o l) → after w.entry ≡ line_fault o f
      unfolding line_fault
      within_fault w =
          sym (shape w.entry ∙ ap (λ (b : Bool). cond (not b) 2 (after w.entry)) w.tested)
          ∙ ap (λ (p : Option (Numbered X)). line_fault p f) (sym w.is_entry)

      -- a line that nothing turns back
      pub taken : 0 ≡ line_fault o f → Within o l
      unfolding line_fault reading
      taken z = by_line o read z
        where
          by_test : (x : Numbered X) (b : Bool) → 0 ≡ cond (not b) 2 (after x) → b ≡ true
          by_test x true q = refl
          by_test x false q = absurd (suc-ne-zero 1 (sym q))

          by_line : (o' : Option (Numbered X)) → l ≡ reading o' → 0 ≡ line_fault o' f → Within o' l
          by_line none e q = absurd (suc-ne-zero 0 (sym q))
          by_line (some x) e q =
              let t = by_test x (k.test x) (q ∙ shape x) in
              record {
                entry = x;
                is_entry = refl;
                tested = t;
                line = e ∙ ap (λ (b : Bool). cond b (k.good x) (k.no_more true)) t;
              }

      pub taken_entered : (z : 0 ≡ line_fault o f) (add : X → Declared) → entry o f add ≡ entered (add (taken z).entry.value)
      unfolding entry unless line_fault
      taken_entered z add =
          let w = taken z in
          ap (λ (p : Option (Numbered X)). entry p f add) w.is_entry
          ∙ rw (sym (z ∙ ap (λ (p : Option (Numbered X)). line_fault p f) w.is_entry))

    -- the line's number is the next in turn behind n, or not
    module _ (w : Within o l) (n : ℕ) (positive : 1 ≤ k.number l) where
      same_number : k.number l ≡ w.entry.number
      same_number = ap k.number w.line ∙ k.number_good w.entry

      pub in_turn : k.number l - 1 ≡ n → eqb w.entry.number (suc n) ≡ true
      in_turn e = eq-eqb w.entry.number (suc n) (omega (arith, same_number))

      pub out_of_turn : (k.number l - 1 ≡ n → ⊥) → eqb w.entry.number (suc n) ≡ false
      out_of_turn ne = ne_eqb w.entry.number (suc n) (λ q. ne (omega (arith, same_number, q)))

-- a line that is turned back declares nothing
pub faulty_entered : {X : Type 0} (o : Option (Numbered X)) (f : Numbered X → ℕ) (add : X → Declared) (n : ℕ) → n ≡ line_fault o f
    → (n ≡ 0 → ⊥) → entry o f add ≡ faulty n
unfolding entry unless line_fault
faulty_entered none f add n e ne = ap faulty (sym e)
faulty_entered (some x) f add n e ne = by_fault (f x) e
  where
    by_fault : (m : ℕ) → n ≡ m → unless m (add x.value) ≡ faulty n
    by_fault zero q = absurd (ne q)
    by_fault (suc m) q = ap faulty (sym q)
