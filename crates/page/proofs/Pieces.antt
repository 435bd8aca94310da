-- The lines of a text as `split_inclusive` gives them: each with the byte 10 that ends it, if there is one.
use mathlib.Core.Path.{◌≡◌, refl, sym, ap, ◌∙◌}
use mathlib.Core.Bool.{Bool, true, false, cond}
use mathlib.Core.List.{List, [], ◌∷◌, ◌++◌}
use Prim.Native.Nat.{ℕ, suc, ◌+◌, ◌≤◌, ◌<◌, min, zero-le, suc-le-suc}
use native.Mathlib.Decide.{dec_lt}
use native.Mathlib.Nat.{not-suc-le-zero, le_of_suc-le-suc}
use native.Mathlib.Omega.{arith}
use denote.Ref.{Bor}
use lib.Dec.{eqb}
use lib.ListN.{length, take, drop, drop_of_length-le, length-append}
use lib.Seq.{take_all, take_at, drop_at}
use borrow.Author.Tests.{eqb-true, eqb-false, eq-eqb}
use Rattle.std.proofs.Common.{Option, Some, None}
use Rattle.std.specs.List.{IsFirstMatchOrLen}
use Rattle.std.specs.Option.{MatchOption, unwrap_or}
use Rattle.text.specs.Lines.{newline, before}
use Rattle.text.proofs.Lines.{before_le, before_at}
use Rattle.text.proofs.NextLines.{front, back}

front_ended : (b : ℕ) (l : List ℕ) → before b l < length l → take (suc (before b l)) l ≡ take (before b l) l ++ b ∷ []
unfolding before
front_ended b [] h = absurd (not-suc-le-zero h)
front_ended b (x ∷ l) h = go (eqb x b) refl h (λ r. front_ended b l r)
  where
    go : (t : Bool) → eqb x b ≡ t → cond t 0 (suc (before b l)) < suc (length l)
        → (before b l < length l → take (suc (before b l)) l ≡ take (before b l) l ++ b ∷ [])
        → take (suc (cond t 0 (suc (before b l)))) (x ∷ l) ≡ take (cond t 0 (suc (before b l))) (x ∷ l) ++ b ∷ []
    go true q r ih = ap (λ (y : ℕ). y ∷ []) (eqb-true x b q)
    go false q r ih = ap (λ (m : List ℕ). x ∷ m) (ih (le_of_suc-le-suc r))

-- the piece is the first line with its end, or all of a text that lacks it
pub record FirstPiece (text piece rest : List ℕ) : Type 0 where
  pub ended : before newline text < length text → (piece ≡ front text ++ newline ∷ []) × (rest ≡ back text)
  pub tail : before newline text ≡ length text → (piece ≡ text) × (rest ≡ [])

-- the place that `split_inclusive` goes to
module _ (text : List ℕ) (i : ℕ) (m : IsFirstMatchOrLen (λ x. eqb x newline) text i) where
  inside : i < length text → i ≡ before newline text
  inside h = before_at text (omega arith) (λ k lt. eqb-false _ _ (m.0 k 0 zero-le lt)) (λ q. eqb-true _ _ (m.1 q 0))

  nowhere : length text ≤ i → length text ≡ before newline text
  nowhere h = before_at text (omega arith) (λ k lt. eqb-false _ _ (m.0 k 0 zero-le (omega arith))) (λ q. absurd (omega arith))

  pub first_piece : (piece rest : List ℕ) → text ≡ piece ++ rest → length piece ≡ min (i + 1) (length text) → FirstPiece text piece rest
  first_piece piece rest parts long =
      let front_is : piece ≡ take (length piece) text = rw parts (sym (take_at piece rest (length piece) refl)) in
      let back_is : rest ≡ drop (length piece) text = rw parts (sym (drop_at piece rest (length piece) refl)) in
      record {
        ended = λ h.
            let n : length piece ≡ suc (before newline text) = at_end h (dec_lt i (length text)) in
            (front_is ∙ rw n (front_ended newline text h), back_is ∙ ap (λ (k : ℕ). drop k text) n);
        tail = λ e.
            let n : length piece ≡ length text = at_all e (dec_lt i (length text)) in (
              front_is ∙ take_all (length piece) text (omega arith),
              back_is ∙ drop_of_length-le text (omega arith),
            );
      }
    where
      at_end : before newline text < length text → Dec (i < length text) → length piece ≡ suc (before newline text)
      at_end h (yes k) = let e = inside k in omega arith
      at_end h (no k) = let e = nowhere (omega arith) in absurd (omega arith)

      at_all : before newline text ≡ length text → Dec (i < length text) → length piece ≡ length text
      at_all h (yes k) = let e = inside k in absurd (omega arith)
      at_all h (no k) = omega arith

before_short : (b : ℕ) (p r : List ℕ) → before b (p ++ b ∷ r) ≤ length p
unfolding before
before_short b [] r = rw (eq-eqb b b refl) zero-le
before_short b (x ∷ p) r = go (eqb x b) (before_short b p r)
  where
    go : (t : Bool) → before b (p ++ b ∷ r) ≤ length p → cond t 0 (suc (before b (p ++ b ∷ r))) ≤ suc (length p)
    go true h = zero-le
    go false h = suc-le-suc h

same_front : (b : ℕ) (l m : List ℕ) → l ++ b ∷ [] ≡ m ++ b ∷ [] → l ≡ m
same_front b l m e =
    let n : length l ≡ length m = omega (arith, ap length e, length-append l (b ∷ []), length-append m (b ∷ [])) in
    sym (take_at l (b ∷ []) (length l) refl) ∙ ap (take (length l)) e ∙ take_at m (b ∷ []) (length l) (sym n)

-- the piece without its end, as `strip_suffix` and `unwrap_or` give it
pub stripped : {text piece rest : List ℕ} → FirstPiece text piece rest → (r : Option (Bor (List ℕ))) (d : Bor (List ℕ)) → d.now ≡ piece
    → MatchOption r ((l : List ℕ) → piece ≡ l ++ newline ∷ [] → ⊥) (λ x. piece ≡ x.now ++ newline ∷ [])
    → (unwrap_or r d).now ≡ front text
stripped {text} {piece} {rest} f r d same m = go (dec_lt (before newline text) (length text)) r m
  where
    go : Dec (before newline text < length text) → (r : Option (Bor (List ℕ)))
        → MatchOption r ((l : List ℕ) → piece ≡ l ++ newline ∷ [] → ⊥) (λ x. piece ≡ x.now ++ newline ∷ [])
        → (unwrap_or r d).now ≡ front text
    go (yes h) None q = absurd (q (front text) (f.ended h).0)
    go (yes h) (Some x) q = same_front newline x.now (front text) (sym q ∙ (f.ended h).0)
    go (no h) None q =
        let e : before newline text ≡ length text = omega (arith, before_le newline text) in
        same ∙ (f.tail e).0 ∙ sym (take_all (before newline text) text (omega arith))
    go (no h) (Some x) q =
        let e : before newline text ≡ length text = omega (arith, before_le newline text) in
        let is : text ≡ x.now ++ newline ∷ [] = sym (f.tail e).0 ∙ q in
        let short : before newline text ≤ length x.now = rw is (before_short newline x.now []) in
        absurd (omega (arith, short, ap length is, length-append x.now (newline ∷ [])))
