-- What a reader says of its next line, for the loops over lines and for names lines.
use mathlib.Core.Path.{◌≡◌, refl, sym, ap, ◌∙◌}
use mathlib.Core.Bool.{Bool, true, false, cond, true≢false}
use mathlib.Core.List.{List, [], ◌∷◌}
use Prim.Native.Nat.{ℕ, suc, ◌+◌, ◌-◌, ◌≤◌, ◌<◌}
use native.Mathlib.Omega.{arith}
use lib.ListN.{length, take, drop, length-drop}
use lib.Seq.{drop-drop}
use Rattle.text.specs.Lines.{newline, Split, lines, before, same_bytes}
use Rattle.text.specs.Cursors.{NextLine, starts_with, AfterNames}
use Rattle.text.specs.declared.Cursor.{Cursor}
use Rattle.text.proofs.Lines.{before_le, split_none, split_found}
use Rattle.text.proofs.Parts.{to_end}

-- ---- the first line of a text

-- its bytes, and what follows its end
abbrev pub front : List ℕ → List ℕ
front text = take (before newline text) text

abbrev pub back : List ℕ → List ℕ
back text = drop (suc (before newline text)) text

-- what is read of all lines and the tail: of a text that stops in its first line, and of one that goes on behind it
module _ {X : Type 0} (read : List (List ℕ) → List ℕ → X) (text : List ℕ) where
  pub of_tail : before newline text ≡ length text → read (lines text).ended (lines text).rest ≡ read [] text
  unfolding lines
  of_tail e = ap (λ (s : Split). read s.ended s.rest) (split_none newline text e)

  pub of_line : before newline text < length text
      → read (lines text).ended (lines text).rest ≡ read (front text ∷ (lines (back text)).ended) (lines (back text)).rest
  unfolding lines
  of_line h = ap (λ (s : Split). read s.ended s.rest) (split_found newline text h)

module _ {text : List ℕ} {k : ℕ} {c : Cursor} (n : NextLine text k c) where
  no_end : length text < c.at → before newline text ≡ length text
  no_end h = omega (arith, n.place, before_le newline text)

  has_end : c.at ≤ length text → before newline text < length text
  has_end h = omega (arith, n.place)

  line_bytes : take (c.at - 1) text ≡ front text
  line_bytes = let e : c.at - 1 ≡ before newline text = omega (arith, n.place) in ap (λ (m : ℕ). take m text) e

  bytes_behind : drop c.at text ≡ back text
  bytes_behind = let e : c.at ≡ suc (before newline text) = omega (arith, n.place) in ap (λ (m : ℕ). drop m text) e

-- ---- the line that starts at a place of a text

-- the rest of a text from a place on, as the code slices it
abbrev pub rest_from : List ℕ → ℕ → List ℕ
rest_from text at = take (length text - at) (drop at text)

-- a line that ends starts at the place, and c says where behind it the next one starts
pub record LineAt (text : List ℕ) (at : ℕ) (c : Cursor) : Type 0 where
  pub ended : before newline (drop at text) < length (drop at text)
  pub place : c.at ≡ suc (before newline (drop at text))
  pub within : at + c.at ≤ length text
  pub bytes : take (c.at - 1) (rest_from text at) ≡ front (drop at text)
  pub behind : drop (at + c.at) text ≡ back (drop at text)

module _ (text : List ℕ) (at : ℕ) {k : ℕ} {c : Cursor} (n : NextLine (rest_from text at) k c) where
  here : NextLine (drop at text) k c
  here = rw (to_end at text) at n

  pub stops_here : length (rest_from text at) < c.at → before newline (drop at text) ≡ length (drop at text)
  stops_here h = no_end here (rw (to_end at text) at h)

  pub ends_here : c.at ≤ length (rest_from text at) → LineAt text at c
  ends_here h =
      let ended = has_end here (rw (to_end at text) at h) in
      record {
        ended = ended;
        place = omega (arith, here.place);
        within = omega (arith, here.place, ended, length-drop at text);
        bytes = rw (to_end at text) (line_bytes here);
        behind = sym (drop-drop c.at at text) ∙ bytes_behind here;
      }

-- ---- names lines

module _ (names text : List ℕ) where
  stops_first : before newline text ≡ length text → starts_with names (lines text).ended ≡ false
  unfolding starts_with
  stops_first e = of_tail (λ ls tail. starts_with names ls) text e

  first_is : before newline text < length text → starts_with names (lines text).ended ≡ same_bytes (front text) names
  unfolding starts_with
  first_is h = of_line (λ ls tail. starts_with names ls) text h

  other_line : starts_with names (lines text).ended ≡ false → AfterNames names text (record { at = 0; line = 1 })
  other_line e = (λ t. absurd (true≢false (sym t ∙ e)), λ f. refl)

  module _ {c : Cursor} (n : NextLine text 1 c) where
    pub names_unended : length text < c.at → AfterNames names text (record { at = 0; line = 1 })
    names_unended h = other_line (stops_first (no_end n h))

    module _ (h : c.at ≤ length text) where
      same_line : starts_with names (lines text).ended ≡ same_bytes (take (c.at - 1) text) names
      same_line = first_is (has_end n h) ∙ ap (λ (l : List ℕ). same_bytes l names) (sym (line_bytes n))

      pub names_other : same_bytes (take (c.at - 1) text) names ≡ false → AfterNames names text (record { at = 0; line = 1 })
      names_other e = other_line (same_line ∙ e)

      pub names_same : same_bytes (take (c.at - 1) text) names ≡ true → AfterNames names text c
      names_same e = (λ t. n, λ f. absurd (true≢false (sym (same_line ∙ e) ∙ f)))

  -- a place is given only behind the names line
  module _ {c : Cursor} (a : AfterNames names text c) (f : c.at ≡ 0 → ⊥) where
    starts : starts_with names (lines text).ended ≡ true
    starts = go (starts_with names (lines text).ended) a.1
      where
        go : (t : Bool) → (t ≡ false → c.at ≡ 0) → t ≡ true
        go true b = refl
        go false b = absurd (f (b refl))

    ends_first : before newline text < length text
    ends_first =
        let ended : before newline text ≡ length text → ⊥ = λ e. true≢false (sym starts ∙ stops_first e) in
        omega (arith, before_le newline text)

    pub behind_names : NextLine text 1 c
    behind_names = a.0 starts

    pub names_within : c.at ≤ length text
    names_within = omega (arith, behind_names.place, ends_first)

-- a text is read so: the names line, then the lines of values from number 2 on; a text that starts with another line is bad
module _ {X : Type 0} (read : List (List ℕ) → List ℕ → X) (values : ℕ → List (List ℕ) → List ℕ → X) (bad : X) (names text : List ℕ)
    (none : (tail : List ℕ) → read [] tail ≡ bad)
    (some : (l : List ℕ) (ls : List (List ℕ)) (tail : List ℕ) → read (l ∷ ls) tail ≡ cond (same_bytes l names) (values 2 ls tail) bad)
    {c : Cursor} (a : AfterNames names text c) where
  pub misnamed : c.at ≡ 0 → bad ≡ read (lines text).ended (lines text).rest
  unfolding starts_with
  misnamed z = sym (go (lines text).ended (starts_with names (lines text).ended) refl a)
    where
      go : (ls : List (List ℕ)) (t : Bool) → starts_with names ls ≡ t → (t ≡ true → NextLine text 1 c) × (t ≡ false → c.at ≡ 0)
          → read ls (lines text).rest ≡ bad
      go ls true e b = absurd (omega (arith, (b.0 refl).place))
      go [] false e b = none (lines text).rest
      go (l ∷ ls) false e b = some l ls (lines text).rest ∙ rw e

  pub named : (c.at ≡ 0 → ⊥)
      → values c.line (lines (rest_from text c.at)).ended (lines (rest_from text c.at)).rest
      ≡ read (lines text).ended (lines text).rest
  named f =
      let n = behind_names names text a f in
      let h = ends_first names text a f in
      let whole = of_line read text h ∙ some (front text) (lines (back text)).ended (lines (back text)).rest in
      let same = sym (first_is names text h) ∙ starts names text a f in
      rw (to_end c.at text, bytes_behind n, n.number) (sym (rw same at whole))
