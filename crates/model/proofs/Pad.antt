-- A list with one entry behind it, up to a width.
use mathlib.Core.Path.{◌≡◌, refl, sym, ap, ◌∙◌}
use mathlib.Core.List.{List, [], ◌∷◌, ◌++◌, map, append_assoc, map-append}
use Prim.Native.Nat.{ℕ, zero, suc, ◌+◌, ◌-◌, ◌≤◌, ◌<◌}
use native.Mathlib.Decide.{dec_lt}
use native.Mathlib.Omega.{arith}
use lib.ListN.{length, get_or, take, set, replicate, length-append, length-replicate, length-map, get_or-append, get_or-eq_default}
use lib.Seq.{set-append_seam, take-append_seam, get_or-append-add}
use Rattle.model.specs.Value.{pad}

module _ {X : Type 0} (n : ℕ) (d : X) where
  pub pad_length : (l : List X) → length l ≤ n → length (pad n d l) ≡ n
  unfolding pad
  pad_length l h = simp (length-append, length-replicate) (omega arith)

  -- a list that fills the width and no more fits it
  pub pad_fits : (l : List X) → length (pad n d l) ≡ n → length l ≤ n
  unfolding pad
  pad_fits l e = omega (arith, simp (length-append, length-replicate) at e)

  rest_get : (k i : ℕ) → get_or (replicate k d) i d ≡ d
  rest_get zero i = refl
  rest_get (suc k) zero = refl
  rest_get (suc k) (suc i) = rest_get k i

  pub pad_get : (l : List X) (i : ℕ) → get_or (pad n d l) i d ≡ get_or l i d
  unfolding pad
  pad_get l i = go (dec_lt i (length l))
    where
      go : Dec (i < length l) → get_or (l ++ replicate (n - length l) d) i d ≡ get_or l i d
      go (yes h) = get_or-append l (replicate (n - length l) d) d i h
      go (no h) =
          let at : i ≡ length l + (i - length l) = omega arith in
          ap (λ (k : ℕ). get_or (l ++ replicate (n - length l) d) k d) at
          ∙ get_or-append-add l (replicate (n - length l) d) (i - length l) d
          ∙ rest_get (n - length l) (i - length l)
          ∙ sym (get_or-eq_default l d (omega arith))

  -- the first unused place taken
  pub pad_more : (l : List X) (x : X) → length l < n → set (pad n d l) (length l) x ≡ pad n d (l ++ x ∷ [])
  unfolding pad
  pad_more l x h =
      let left : n - length l ≡ suc (n - suc (length l)) = omega arith in
      let right : n - length (l ++ x ∷ []) ≡ n - suc (length l) = simp length-append (omega arith) in
      ap (λ (k : ℕ). set (l ++ replicate k d) (length l) x) left
      ∙ set-append_seam l d (replicate (n - suc (length l)) d) x
      ∙ sym (append_assoc l (x ∷ []) (replicate (n - suc (length l)) d))
      ∙ ap (λ (k : ℕ). l ++ x ∷ [] ++ replicate k d) (sym right)

  pub pad_take : (l : List X) → take (length l) (pad n d l) ≡ l
  unfolding pad
  pad_take l = take-append_seam l (replicate (n - length l) d)

module _ {X : Type 0} (f : X → X) where
  map_replicate : (n : ℕ) (d : X) → f d ≡ d → map f (replicate n d) ≡ replicate n d
  map_replicate zero d e = refl
  map_replicate (suc n) d e = cc (e, map_replicate n d e)

  -- what stands behind a list needs no change
  pub map_pad : (n : ℕ) (d : X) (l : List X) → f d ≡ d → map f (pad n d l) ≡ pad n d (map f l)
  unfolding pad
  map_pad n d l e = rw (map-append, map_replicate (n - length l) d e, length-map)
