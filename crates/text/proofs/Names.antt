-- Lines have the same bytes exactly when they are equal; and lines compared so many bytes at a time.
use mathlib.Core.Path.{◌≡◌, refl, sym, ap, ap₂, subst, ◌∙◌}
use mathlib.Core.Logic.{◌↔◌}
use mathlib.Core.Bool.{Bool, true, false, ◌&&◌, and_assoc}
use mathlib.Core.List.{List, [], ◌∷◌, head-eq_of_cons-eq}
use Prim.Native.Nat.{ℕ, zero, suc, ◌+◌, ◌<◌}
use lib.Dec.{T, eqb, eqb→eq, eqb_refl}
use lib.ListN.{length, get_or, take, drop}
use lib.Seq.{drop-cons, drop-drop, ext_get_or}
use mir.Facts.{and_yes, yes_and}
use Rattle.text.specs.Lines.{same_bytes, SameLine}

same_self : (l : List ℕ) → T (same_bytes l l)
unfolding same_bytes
same_self [] = tt
same_self (b ∷ l) = yes_and (eqb b b) (same_bytes l l) (eqb_refl b) (same_self l)

equal_of_same : (l m : List ℕ) → T (same_bytes l m) → l ≡ m
unfolding same_bytes
equal_of_same [] [] t = refl
equal_of_same [] (c ∷ m) t = absurd t
equal_of_same (b ∷ l) [] t = absurd t
equal_of_same (b ∷ l) (c ∷ m) t =
    let r = and_yes (eqb b c) (same_bytes l m) t in
    ap₂ {C = List ℕ} (λ x y. x ∷ y) (eqb→eq b c r.0) (equal_of_same l m r.1)

pub same_bytes_iff : (l m : List ℕ) → T (same_bytes l m) ↔ (l ≡ m)
same_bytes_iff l m = (λ t. equal_of_same l m t, λ e. subst (λ (k : List ℕ). T (same_bytes l k)) e (same_self l))

-- "equal exactly when both lines have the same length and bytes"
pub same_exactly : (l m : List ℕ) → T (same_bytes l m) ↔ SameLine l m
same_exactly l m = (
  λ t.
      let e = (same_bytes_iff l m).0 t in
      record { long = ap length e; bytes = λ k h. ap (λ (x : List ℕ). get_or x k 0) e },
  λ s. (same_bytes_iff l m).1 (ext_get_or 0 l m s.long s.bytes),
)

pub same_true : (l m : List ℕ) → l ≡ m → true ≡ same_bytes l m
same_true l m e = go (same_bytes l m) ((same_bytes_iff l m).1 e)
  where
    go : (t : Bool) → T t → true ≡ t
    go true h = refl
    go false h = absurd h

pub same_false : (l m : List ℕ) → (l ≡ m → ⊥) → false ≡ same_bytes l m
same_false l m n = go (same_bytes l m) (λ t. n ((same_bytes_iff l m).0 t))
  where
    go : (t : Bool) → (T t → ⊥) → false ≡ t
    go true h = absurd (h tt)
    go false h = refl

-- ---- so many bytes at a time

same_parted : (n : ℕ) (l m : List ℕ) → same_bytes (take n l) (take n m) && same_bytes (drop n l) (drop n m) ≡ same_bytes l m
unfolding same_bytes
same_parted zero l m = refl
same_parted (suc n) [] [] = refl
same_parted (suc n) [] (c ∷ m) = refl
same_parted (suc n) (b ∷ l) [] = refl
same_parted (suc n) (b ∷ l) (c ∷ m) =
    and_assoc (eqb b c) (same_bytes (take n l) (take n m)) (same_bytes (drop n l) (drop n m)) ∙ rw (same_parted n l m)

module _ (a b : List ℕ) (i : ℕ) where
  -- where the next n bytes are the same, what is behind them decides; where they are not, they do
  pub same_behind : (n : ℕ) → take n (drop i a) ≡ take n (drop i b)
      → same_bytes (drop (i + n) a) (drop (i + n) b) ≡ same_bytes (drop i a) (drop i b)
  same_behind n e =
      rw (sym (drop-drop n i a), sym (drop-drop n i b), sym (same_parted n (drop i a) (drop i b)), sym (same_true _ _ e))

  pub apart_here : (n : ℕ) → (take n (drop i a) ≡ take n (drop i b) → ⊥) → false ≡ same_bytes (drop i a) (drop i b)
  apart_here n f = same_false _ _ (λ e. f (ap (λ (l : List ℕ). take n l) e))

  -- the next byte
  pub byte_iff : i < length a → i < length b → (get_or a i 0 ≡ get_or b i 0) ↔ (take 1 (drop i a) ≡ take 1 (drop i b))
  byte_iff h k =
      rw (drop-cons a i 0 h, drop-cons b i 0 k) (λ e. ap {B = List ℕ} (λ x. x ∷ []) e, λ e. head-eq_of_cons-eq e)
