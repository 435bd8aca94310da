-- Reading a series of pieces from the left, as `split` gives them: what those passed say, and what is left. One argument for the terms of an
-- atom, the atoms of a body and the names of a head.
use mathlib.Core.Path.{◌≡◌, ◌∙◌}
use mathlib.Core.Bool.{true, false}
use mathlib.Core.List.{List, [], ◌∷◌, ◌++◌, append-nil}
use mathlib.Core.Option.{Option, none, some}
use Prim.Native.Nat.{ℕ}
use Rattle.std.specs.declared.slice.Split.{Split as Pieces}
use Rattle.text.specs.Lines.{parts}
use Rattle.text.proofs.Cuts.{left, Cut}
use Rattle.model.specs.Fields.{both, mapped}
use Rattle.model.proofs.FieldsRead.{append_none, none_next, some_next}
use Rattle.rules.specs.Text.{onto, behind, series}

-- ---- the pieces passed

-- what parts the pieces, what stands before the first and before each other, and what a piece says behind that
module _ {F X : Type 0} (sep : ℕ) (lead next : List ℕ) (read : List ℕ → Option X) (s : List ℕ) where
  -- the pieces before those that are left were read as these values; the next one stands behind `now`
  pub record SeriesRead (now : List ℕ) (values : List X) (it : Pieces ℕ F) : Type 0 where
    pub ahead : series lead next read (parts sep s) ≡ mapped (λ l. values ++ l) (series now next read (left sep it))

  pub series_none : (it : Pieces ℕ F) → it.done ≡ false → it.rest.now ≡ s → SeriesRead lead [] it
  series_none it e z = record { ahead = rw (e, z) (append_none (series lead next read (parts sep s))) }

  -- ---- the next piece

  module _ {now f : List ℕ} {values : List X} {it then : Pieces ℕ F} (passed : SeriesRead now values it) (here : Cut sep it f then) where
    ahead : series lead next read (parts sep s)
        ≡ mapped (λ l. values ++ l) (both ◌∷◌ (onto read (behind now f)) (series next next read (left sep then)))
    unfolding series
    ahead = passed.ahead ∙ rw here.next

    pub series_broken : onto read (behind now f) ≡ none → series lead next read (parts sep s) ≡ none
    series_broken e = ahead ∙ none_next values (onto read (behind now f)) (series next next read (left sep then)) e

    pub series_more : (u : X) → onto read (behind now f) ≡ some u → SeriesRead next (values ++ u ∷ []) then
    series_more u e =
        record { ahead = ahead ∙ some_next values u (onto read (behind now f)) (series next next read (left sep then)) e }

  -- ---- all pieces

  pub series_all : {now : List ℕ} {values : List X} {it : Pieces ℕ F} → SeriesRead now values it → it.done ≡ true
      → series lead next read (parts sep s) ≡ some values
  unfolding series mapped
  series_all {values = values} r e = r.ahead ∙ rw (e, append-nil)
