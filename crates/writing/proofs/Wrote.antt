-- Laws of writing: nothing, one byte, one piece behind another, and a list of bytes from its front on.
use mathlib.Core.Path.{◌≡◌, subst, refl, sym, ap, ◌∙◌}
use mathlib.Core.List.{List, [], ◌∷◌, ◌++◌, append_assoc, append-nil}
use Prim.Native.Nat.{ℕ, ◌+◌, ◌≤◌, ◌<◌}
use native.Mathlib.Numerals.{add-one}
use native.Mathlib.Omega.{arith}
use lib.ListN.{length, take, drop, set, get_or, length-set, length-append}
use lib.Seq.{take_all, take-suc, take-suc-set, drop-set-lt, drop-drop}
use Rattle.writing.specs.Wrote.{Wrote}

-- bytes under another name
pub wrote_as : {a b l m : List ℕ} {at r : ℕ} → l ≡ m → Wrote a at l b r → Wrote a at m b r
wrote_as {a} {b} {at = at} {r = r} e w = subst (λ (x : List ℕ). Wrote a at x b r) e w

pub wrote_none : (was : List ℕ) (at : ℕ) → Wrote was at [] was at
wrote_none was at = record { front = sym (append-nil (take at was)); next = omega arith; rest = refl; size = refl }

pub wrote_byte : {was is : List ℕ} {at b r : ℕ} → at < length was → (is ≡ set was at b) × (r ≡ at + 1) → Wrote was at (b ∷ []) is r
wrote_byte {was} {at = at} {b = b} h (e, n) =
    rw (e, n) record {
      front = rw (add-one at) (take-suc-set was at b h);
      next = omega arith;
      rest = drop-set-lt (at + 1) was at b (omega arith);
      size = length-set was at b;
    }

pub wrote_more : {a b c bs cs : List ℕ} {i j k : ℕ} → Wrote a i bs b j → Wrote b j cs c k → Wrote a i (bs ++ cs) c k
wrote_more {a} {b} {bs = bs} {cs = cs} {i = i} {j = j} v w =
    record {
      front = w.front ∙ ap (λ (l : List ℕ). l ++ cs) v.front ∙ append_assoc (take i a) bs cs;
      next = omega (arith, v.next, w.next, length-append bs cs);
      rest = w.rest ∙ rw w.next (sym (drop-drop (length cs) j b) ∙ ap (drop (length cs)) v.rest ∙ drop-drop (length cs) j a);
      size = w.size ∙ v.size;
    }

-- the byte of `bs` at place i behind those before it
pub wrote_next : {a b c : List ℕ} {at j k : ℕ} (bs : List ℕ) (i : ℕ) → Wrote a at (take i bs) b j → Wrote b j (get_or bs i 0 ∷ []) c k
    → i < length bs → Wrote a at (take (i + 1) bs) c k
wrote_next bs i v w h = rw (add-one i, take-suc bs i 0) (wrote_more v w)

pub wrote_all : {a b : List ℕ} {at j : ℕ} (bs : List ℕ) (i : ℕ) → Wrote a at (take i bs) b j → length bs ≤ i → Wrote a at bs b j
wrote_all bs i w h = rw (take_all i bs h) at w
