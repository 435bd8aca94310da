-- The part of a text from a place on, and the bytes before the first of a kind.
use mathlib.Core.Path.{◌≡◌, sym}
use mathlib.Core.List.{List}
use Prim.Native.Nat.{ℕ, ◌-◌, ◌<◌}
use native.Mathlib.Omega.{arith}
use lib.ListN.{length, take, drop, length-drop}
use lib.Seq.{take_all, length-take-le}
use Rattle.text.specs.Lines.{before}
use Rattle.text.proofs.Lines.{before_le}

pub to_end : {X : Type 0} (i : ℕ) (l : List X) → take (length l - i) (drop i l) ≡ drop i l
to_end i l = take_all (length l - i) (drop i l) (simp length-drop (omega arith))

-- the bytes before the first b are as many as its place says
pub first_length : (b n : ℕ) (l : List ℕ) → n ≡ before b l → n ≡ length (take n l)
first_length b n l e = sym (length-take-le n l (omega (arith, before_le b l)))

-- a place other than the length is that of a b
pub first_inside : (b n : ℕ) (l : List ℕ) → n ≡ before b l → (n ≡ length l → ⊥) → n < length l
first_inside b n l e f = omega (arith, before_le b l)
