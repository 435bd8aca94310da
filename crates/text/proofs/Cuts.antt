-- The pieces of a list as std's `split` gives them: what it has left, and the next of them.
use mathlib.Core.Path.{◌≡◌, refl, sym, ap, ◌∙◌}
use mathlib.Core.Logic.{⊎_elim}
use mathlib.Core.Bool.{Bool, true, false, cond}
use mathlib.Core.List.Memᴰ
use mathlib.Core.List.{List, [], ◌∷◌, ◌++◌}
use Prim.Native.Nat.{ℕ, suc, ◌+◌, ◌≤◌, ◌<◌, zero-le, suc-le-suc}
use native.Mathlib.Omega.{arith}
use lib.Dec.{eqb}
use lib.ListN.{length, get_or, length-append, get_or-append}
use lib.Seq.{get_or-append_seam}
use borrow.Author.Tests.{eqb-true, eqb-false}
use Rattle.std.specs.Bool.{MatchBool}
use Rattle.std.specs.List.{IsFirstMatchOrLen}
use Rattle.std.specs.declared.slice.Split.{Split as Pieces}
use Rattle.text.specs.Lines.{Split, parts}
use Rattle.text.proofs.Lines.{Free, split_clean, split_pieces}

-- ---- the first piece

-- no byte of the piece parts
free : (sep : ℕ) (p : List ℕ) → ((k : ℕ) → k < length p → eqb (get_or p k 0) sep ≡ false) → Free sep p
free sep [] h y m = absurd (Memᴰ.not-nil m)
free sep (x ∷ p) h y m =
    ⊎_elim (λ q z. eqb-false x sep (h 0 (suc-le-suc zero-le)) (sym q ∙ z)) (λ t. free sep p (λ k l. h (suc k) (suc-le-suc l)) y t)
    (Memᴰ.cases_cons m)

last_piece : (sep : ℕ) (p : List ℕ) → Free sep p → parts sep p ≡ p ∷ []
unfolding parts
last_piece sep p n = ap (λ (s : Split). s.ended ++ s.rest ∷ []) (split_clean sep p n)

other_piece : (sep : ℕ) (p r : List ℕ) → Free sep p → parts sep (p ++ sep ∷ r) ≡ p ∷ parts sep r
unfolding parts
other_piece sep p r n = ap (λ (s : Split). s.ended ++ s.rest ∷ []) (split_pieces sep p r n)

-- ---- what `split` has left

module _ {F : Type 0} where
  -- the pieces
  abbrev pub left : ℕ → Pieces ℕ F → List (List ℕ)
  left sep it = cond it.done [] (parts sep it.rest.now)

  -- as many as they can be
  abbrev pub most_left : Pieces ℕ F → ℕ
  most_left it = cond it.done 0 (length it.rest.now + 1)

  -- a piece is the next, and `then` is what is left behind it
  pub record Cut (sep : ℕ) (it : Pieces ℕ F) (piece : List ℕ) (then : Pieces ℕ F) : Type 0 where
    pub next : left sep it ≡ piece ∷ left sep then
    pub fewer : most_left then + 1 ≤ most_left it

  pub cut : (sep : ℕ) (it then : Pieces ℕ F) (piece : List ℕ) → it.done ≡ false
      → MatchBool then.done (it.rest.now ≡ piece) ((y : ℕ) × (it.rest.now ≡ piece ++ y ∷ then.rest.now))
      → IsFirstMatchOrLen (λ b. eqb b sep) it.rest.now (length piece) → Cut sep it piece then
  cut sep it then piece e m f = go then.done refl m
    where
      xs : List ℕ
      xs = it.rest.now

      go : (d : Bool) → then.done ≡ d → MatchBool d (xs ≡ piece) ((y : ℕ) × (xs ≡ piece ++ y ∷ then.rest.now)) → Cut sep it piece then
      go true q z =
          let none : Free sep piece = free sep piece (λ k l. rw z at f.0 k 0 zero-le l) in
          record {
            next = rw (e, q, z) (last_piece sep piece none);
            fewer = rw (e, q) (omega arith);
          }
      go false q (y, z) =
          let none : Free sep piece
          = free sep piece (λ k l.
          let same : get_or xs k 0 ≡ get_or piece k 0
          = ap (λ (m : List ℕ). get_or m k 0) z ∙ get_or-append piece (y ∷ then.rest.now) 0 k l in
          sym (ap (λ (b : ℕ). eqb b sep) same) ∙ f.0 k 0 zero-le l) in
          let long : length xs ≡ length piece + suc (length then.rest.now) = ap length z ∙ length-append piece (y ∷ then.rest.now) in
          let seam : get_or xs (length piece) 0 ≡ y
          = ap (λ (m : List ℕ). get_or m (length piece) 0) z ∙ get_or-append_seam piece y then.rest.now 0 in
          let ends : y ≡ sep = sym seam ∙ eqb-true (get_or xs (length piece) 0) sep (f.1 (omega (arith, long)) 0) in
          record {
            next = rw (e, q, z, ends) (other_piece sep piece then.rest.now none);
            fewer = rw (e, q) (omega (arith, long));
          }
