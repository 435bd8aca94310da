-- A text written from a place of a buffer on: the part from there on is lent, and what comes back is the buffer with the text in its place.
use mathlib.Core.Path.{◌≡◌, refl, ap, ap₂, sym, ◌∙◌}
use mathlib.Core.List.{List, ◌++◌, append-nil, append_assoc}
use Prim.Native.Nat.{ℕ, ◌+◌, ◌-◌, ◌≤◌, ◌<◌, zero-le}
use native.Mathlib.Nat.{zero-add}
use native.Mathlib.Omega.{arith}
use lib.ListN.{length, take, drop, length-append, length-drop, drop_of_length-le, take-append-drop}
use lib.Seq.{take_at, drop_at, length-take-le, drop-drop}
use borrow.Author.Tests.{lt-ltb, le-ltb}
use Rattle.std.specs.Prelude.{Ok, Err}
use Rattle.text.proofs.Parts.{to_end}
use Rattle.writing.specs.Wrote.{Wrote}
use Rattle.import.specs.Import.{owed_text, said_import, placed, TextGiven}
use Rattle.import.specs.Outcomes.{bytes_at}

-- ---- how many bytes are said

pub none_said : {n : ℕ} (number line : ℕ) → (said_import (Err (record { number = number; line = line }))).bytes ≤ n
unfolding said_import
none_said number line = zero-le

pub written_said : {n m : ℕ} → n ≤ m → (said_import (Ok n)).bytes ≤ m
unfolding said_import
written_said h = h

-- ---- the reply

module _ (t : List ℕ) (place : ℕ) (buffer : List ℕ) where
  pub no_room : length buffer < place + length t → TextGiven t place buffer (Err (record { number = 10; line = 0 })) buffer
  unfolding owed_text said_import
  no_room h = rw (lt-ltb (length buffer) (place + length t) h) (refl, refl)

  -- ---- the part from the place on

  abbrev part : List ℕ
  part = take (length buffer - place) (drop place buffer)

  -- the text at its front
  part_written : {is : List ℕ} {r : ℕ} → Wrote part 0 t is r → is ≡ t ++ drop (place + length t) buffer
  part_written {is} {r} w =
      sym (take-append-drop r is)
      ∙ ap₂ {C = List ℕ} ◌++◌ w.front
      (w.rest ∙ rw (to_end place buffer, w.next, zero-add (length t)) (drop-drop (length t) place buffer))

  -- given back, nothing stands behind it
  part_back : {is : List ℕ} {r : ℕ} → Wrote part 0 t is r
      → is ++ drop (length buffer - place) (drop place buffer) ≡ t ++ drop (place + length t) buffer
  part_back {is} w =
      let all : length (drop place buffer) ≤ length buffer - place = omega (arith, length-drop place buffer) in
      ap (λ (l : List ℕ). is ++ l) (drop_of_length-le (drop place buffer) all) ∙ append-nil is ∙ part_written w

  pub text_placed : {is : List ℕ} {r : ℕ} → place + length t ≤ length buffer → Wrote part 0 t is r
      → TextGiven t place buffer (Ok (length t)) (take place buffer ++ (is ++ drop (length buffer - place) (drop place buffer)))
  unfolding owed_text said_import
  text_placed h w =
      rw (le-ltb (length buffer) (place + length t) h) (
        refl,
        ap (λ (l : List ℕ). take place buffer ++ l) (part_back w)
            ∙ sym (append_assoc (take place buffer) t (drop (place + length t) buffer)),
      )

-- ---- the buffer with a text in its place

module _ (place : ℕ) (t before : List ℕ) (room : place + length t ≤ length before) where
  front_long : length (take place before) ≡ place
  front_long = length-take-le place before (omega (arith, room))

  behind_front : placed place t before ≡ take place before ++ (t ++ drop (place + length t) before)
  behind_front = append_assoc (take place before) t (drop (place + length t) before)

  pub placed_bytes : bytes_at place (length t) (placed place t before) ≡ t
  placed_bytes =
      rw (behind_front, drop_at (take place before) (t ++ drop (place + length t) before) place front_long)
      (take_at t (drop (place + length t) before) (length t) refl)

  pub placed_front : take place (placed place t before) ≡ take place before
  placed_front = rw behind_front (take_at (take place before) (t ++ drop (place + length t) before) place front_long)

  long_so_far : length (take place before ++ t) ≡ place + length t
  long_so_far = length-append (take place before) t ∙ ap (λ (n : ℕ). n + length t) front_long

  pub placed_rest : drop (place + length t) (placed place t before) ≡ drop (place + length t) before
  placed_rest = drop_at (take place before ++ t) (drop (place + length t) before) (place + length t) long_so_far

  pub placed_long : length (placed place t before) ≡ length before
  placed_long =
      length-append (take place before ++ t) (drop (place + length t) before)
      ∙ omega (arith, long_so_far, length-drop (place + length t) before, room)
