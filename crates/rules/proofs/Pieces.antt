-- Texts taken apart: behind bytes that lead, before bytes that end, and at the first bracket.
use mathlib.Core.Path.{◌≡◌, refl, sym, ap, ap₂, ◌∙◌}
use mathlib.Core.Logic.{◌↔◌}
use mathlib.Core.Bool.{Bool, true, false, cond, not}
use mathlib.Core.Option.{Option, none, some, some-injective, none-ne-some}
use mathlib.Core.List.{List, [], ◌∷◌, ◌++◌, nil≢cons, head-eq_of_cons-eq, tail-eq_of_cons-eq}
use Prim.Native.Nat.{ℕ, ◌≤◌}
use native.Mathlib.Nat.{not-suc-le-zero}
use native.Mathlib.Omega.{arith}
use lib.Dec.{T, eqb, T_not}
use lib.ListN.{length, take, drop, length-append}
use lib.Seq.{take_at, drop_at}
use mir.Facts.{yes_eqb}
use borrow.Author.Tests.{eqb-true, eqb-false}
use Rattle.theory.specs.Executable.Test.{all}
use Rattle.theory.proofs.Executable.Test.{all_iff}
use Rattle.text.specs.Lines.{before, same_bytes}
use Rattle.text.proofs.Lines.{Free, before_ended}
use Rattle.text.proofs.Names.{same_bytes_iff, same_true, same_false}
use Rattle.model.specs.Fields.{mapped}
use Rattle.model.proofs.ReadLines.{mapped_some}
use Rattle.rules.specs.Text.{opening, onto, behind, unended}

-- ---- bytes that a text lacks

-- of a text that is written out
pub free : (b : ℕ) (l : List ℕ) → T (all (λ x. not (eqb x b)) l) → Free b l
free b l h x m e = T_not (eqb x b) ((all_iff (λ y. not (eqb y b)) l).0 h x m) (yes_eqb e)

-- ---- behind and before

pub onto_some : {X Y : Type 0} (f : X → Option Y) (o : Option X) (y : Y) → onto f o ≡ some y → (x : X) × (o ≡ some x) × (f x ≡ some y)
unfolding onto
onto_some f none y e = absurd (none-ne-some y e)
onto_some f (some x) y e = (x, refl, e)

pub behind_iff : (lead l m : List ℕ) → (behind lead l ≡ some m) ↔ (l ≡ lead ++ m)
unfolding behind
behind_iff [] l m = (some-injective l m, ap some)
behind_iff (b ∷ lead) [] m = (λ e. absurd (none-ne-some m e), λ e. absurd (nil≢cons e))
behind_iff (b ∷ lead) (c ∷ l) m = go (eqb c b) refl (behind_iff lead l m)
  where
    go : (t : Bool) → eqb c b ≡ t → (behind lead l ≡ some m) ↔ (l ≡ lead ++ m)
        → (cond t (behind lead l) none ≡ some m) ↔ (c ∷ l ≡ b ∷ (lead ++ m))
    go true q rest = (λ e. ap₂ {C = List ℕ} ◌∷◌ (eqb-true c b q) (rest.0 e), λ e. rest.1 (tail-eq_of_cons-eq e))
    go false q rest = (λ e. absurd (none-ne-some m e), λ e. absurd (eqb-false c b q (head-eq_of_cons-eq e)))

unended_to : (last l m : List ℕ) → unended last l ≡ some m → l ≡ m ++ last
unfolding unended
unended_to last [] m e = absurd (none-ne-some m e)
unended_to last (b ∷ l) m e = go (same_bytes (b ∷ l) last) (λ t. t) (unended_to last l) e
  where
    go : (t : Bool) → (T t → T (same_bytes (b ∷ l) last)) → ((k : List ℕ) → unended last l ≡ some k → l ≡ k ++ last)
        → cond t (some []) (mapped (λ k. b ∷ k) (unended last l)) ≡ some m → b ∷ l ≡ m ++ last
    go true q rest e = (same_bytes_iff (b ∷ l) last).0 (q tt) ∙ ap (λ (k : List ℕ). k ++ last) (some-injective [] m e)
    go false q rest e =
        let (k, r, s) = mapped_some (λ (k : List ℕ). b ∷ k) (unended last l) m e in
        ap (λ (n : List ℕ). b ∷ n) (rest k r) ∙ ap (λ (n : List ℕ). n ++ last) s

unended_from : (last m : List ℕ) → 1 ≤ length last → unended last (m ++ last) ≡ some m
unfolding unended mapped
unended_from [] [] h = absurd (not-suc-le-zero h)
unended_from (c ∷ last) [] h = rw (sym (same_true (c ∷ last) (c ∷ last) refl))
unended_from last (b ∷ m) h =
    rw (sym (same_false (b ∷ (m ++ last)) last (λ e. omega (arith, ap length e, length-append m last))), unended_from last m h)

pub unended_iff : (last l m : List ℕ) → 1 ≤ length last → (unended last l ≡ some m) ↔ (l ≡ m ++ last)
unended_iff last l m h = (unended_to last l m, λ e. rw e (unended_from last m h))

-- ---- at the first bracket that opens

pub opened : (l p r : List ℕ) → Free opening p → l ≡ p ++ opening ∷ r
    → (take (before opening l) l ≡ p) × (drop (before opening l) l ≡ opening ∷ r)
opened l p r h e =
    let n = sym (before_ended opening p r h) in rw e (take_at p (opening ∷ r) _ n, drop_at p (opening ∷ r) _ n)
