-- Pieces read one by one: what was read, printed again, is the pieces, and lists between commas and brackets are put together of them.
use mathlib.Core.Path.{◌≡◌, refl, sym, ap, ap₂, ◌∙◌}
use mathlib.Core.Logic.{◌↔◌}
use mathlib.Core.Option.{Option, some, some-injective}
use mathlib.Core.List.{List, [], ◌∷◌, ◌++◌, map, append_assoc, nil≢cons}
use mathlib.Core.List.Memᴰ
use Prim.Native.Nat.{ℕ, ◌≤◌, zero-le, suc-le-suc}
use native.Mathlib.Nat.{not-suc-le-zero}
use lib.ListN.{length}
use Rattle.theory.specs.Executable.Test.{all}
use Rattle.text.specs.Lines.{parts}
use Rattle.text.specs.Names.{bytes}
use Rattle.text.specs.Print.{joined_by}
use Rattle.text.proofs.Each.{Each, each_nil, each_cons, each_append, each_map}
use Rattle.text.proofs.Lines.{Free}
use Rattle.text.proofs.PartsJoined.{joined_parts, parts_cons, parts_joined}
use Rattle.model.specs.Fields.{both}
use Rattle.model.proofs.ReadLines.{both_some}
use Rattle.rules.specs.Text.{comma, closing, onto, behind, series}
use Rattle.rules.specs.Print.{listed}
use Rattle.rules.proofs.Pieces.{free, onto_some, behind_iff}

-- ---- pieces and what they are put together to

-- fields of which the first stands behind `lead`, and each other behind `next`
unfoldable pub pieces : (lead next : List ℕ) → List (List ℕ) → List (List ℕ)
pieces lead next [] = []
pieces lead next (f ∷ fs) = (lead ++ f) ∷ pieces next next fs

pub pieces_free : (sep : ℕ) (lead next : List ℕ) (fs : List (List ℕ)) → Free sep lead → Free sep next → Each (Free sep) fs
    → Each (Free sep) (pieces lead next fs)
unfolding pieces
pieces_free sep lead next [] l n h = each_nil (Free sep)
pieces_free sep lead next (f ∷ fs) l n h =
    each_cons (Free sep) (lead ++ f) (pieces next next fs) (each_append _ lead f l (h f (Memᴰ.head refl)))
    (pieces_free sep next next fs n n (λ g m. h g (Memᴰ.tail m)))

pub listed_free : (b : ℕ) (fs : List (List ℕ)) → Free b (bytes ", ") → Each (Free b) fs → Free b (listed fs)
unfolding listed
listed_free b [] between h = each_nil _
listed_free b (f ∷ []) between h = h f (Memᴰ.head refl)
listed_free b (f ∷ g ∷ gs) between h =
    each_append _ (f ++ bytes ", ") (listed (g ∷ gs)) (each_append _ f (bytes ", ") (h f (Memᴰ.head refl)) between)
    (listed_free b (g ∷ gs) between (λ k m. h k (Memᴰ.tail m)))

-- commas between them, and a space behind each
commas_listed : (lead f : List ℕ) (fs : List (List ℕ)) → joined_by comma (pieces lead (bytes " ") (f ∷ fs)) ≡ lead ++ listed (f ∷ fs)
unfolding pieces joined_by listed bytes
commas_listed lead f [] = refl
commas_listed lead f (g ∷ gs) =
    ap (λ (l : List ℕ). lead ++ f ++ comma ∷ l) (commas_listed (bytes " ") g gs) ∙ simp append_assoc

-- brackets that close between them and behind them, and a comma and a space behind each but the last
pub brackets_listed : (lead f rest : List ℕ) (fs : List (List ℕ))
    → joined_by closing (pieces lead (bytes ", ") (f ∷ fs)) ++ closing ∷ rest
    ≡ lead ++ listed (map (λ g. g ++ bytes ")") (f ∷ fs)) ++ rest
unfolding pieces joined_by listed bytes
brackets_listed lead f rest [] = simp append_assoc
brackets_listed lead f rest (g ∷ gs) =
    append_assoc (lead ++ f) (closing ∷ joined_by closing (pieces (bytes ", ") (bytes ", ") (g ∷ gs))) (closing ∷ rest)
    ∙ ap (λ (l : List ℕ). lead ++ f ++ closing ∷ l) (brackets_listed (bytes ", ") g rest gs) ∙ simp append_assoc

-- ---- readers of one piece

module _ {X : Type 0} (read : List ℕ → Option X) (write : X → List ℕ) (P : X → Type 0)
    (exact : (f : List ℕ) (x : X) → (read f ≡ some x) ↔ (P x × (f ≡ write x))) where
  series_to : (lead next : List ℕ) (ps : List (List ℕ)) (xs : List X) → series lead next read ps ≡ some xs
      → Each P xs × (ps ≡ pieces lead next (map write xs))
  unfolding series pieces
  series_to lead next [] xs e = rw (sym (some-injective [] xs e)) (each_nil P, refl)
  series_to lead next (p ∷ ps) xs e =
      let (x, ys, first, others, is) = both_some ◌∷◌ (onto read (behind lead p)) (series next next read ps) xs e in
      let (f, stands, reads) = onto_some read (behind lead p) x first in
      let (px, fx) = (exact f x).0 reads in
      let (pys, rest) = series_to next next ps ys others in
      let here : p ≡ lead ++ write x = (behind_iff lead p f).0 stands ∙ ap (λ (l : List ℕ). lead ++ l) fx in
      rw (sym is) (each_cons P x ys px pys, ap₂ {C = List (List ℕ)} ◌∷◌ here rest)

  series_from : (lead next : List ℕ) (xs : List X) → Each P xs → series lead next read (pieces lead next (map write xs)) ≡ some xs
  unfolding series pieces both onto
  series_from lead next [] h = refl
  series_from lead next (x ∷ xs) h =
      rw (
        (behind_iff lead (lead ++ write x) (write x)).1 refl,
        (exact (write x) x).1 (h x (Memᴰ.head refl), refl),
        series_from next next xs (λ y m. h y (Memᴰ.tail m)),
      )

  -- for terms, head names and atoms alike
  pub series_iff : (lead next : List ℕ) (ps : List (List ℕ)) (xs : List X)
      → (series lead next read ps ≡ some xs) ↔ (Each P xs × (ps ≡ pieces lead next (map write xs)))
  series_iff lead next ps xs = (series_to lead next ps xs, λ r. rw r.1 (series_from lead next xs r.0))

  -- a list that a bracket opens, its parts between commas
  pub listed_iff : ((x : X) → P x → Free comma (write x)) → (l : List ℕ) (xs : List X)
      → (series (bytes "(") (bytes " ") read (parts comma l) ≡ some xs)
      ↔ ((1 ≤ length xs) × Each P xs × (l ≡ bytes "(" ++ listed (map write xs)))
  unfolding bytes pieces all
  listed_iff clean l xs = (to xs, from xs)
    where
      to : (xs : List X) → series (bytes "(") (bytes " ") read (parts comma l) ≡ some xs
          → (1 ≤ length xs) × Each P xs × (l ≡ bytes "(" ++ listed (map write xs))
      to [] e =
          let (p, ps, is) = parts_cons comma l in
          absurd (nil≢cons (sym (series_to (bytes "(") (bytes " ") (parts comma l) [] e).1 ∙ is))
      to (x ∷ xs) e =
          let (h, is) = series_to (bytes "(") (bytes " ") (parts comma l) (x ∷ xs) e in
          (suc-le-suc zero-le, h, sym (joined_parts comma l) ∙ ap (joined_by comma) is ∙ commas_listed (bytes "(") (write x) (map write xs))

      from : (xs : List X) → (1 ≤ length xs) × Each P xs × (l ≡ bytes "(" ++ listed (map write xs))
          → series (bytes "(") (bytes " ") read (parts comma l) ≡ some xs
      from [] r = absurd (not-suc-le-zero r.0)
      from (x ∷ xs) (some-x, h, is) =
          let fields = each_map (Free comma) write (x ∷ xs) (λ y m. clean y (h y m)) in
          let ps = pieces_free comma (bytes "(") (bytes " ") (map write (x ∷ xs)) (free comma _ tt) (free comma _ tt) fields in
          let same : parts comma l ≡ pieces (bytes "(") (bytes " ") (map write (x ∷ xs))
          = ap (parts comma) (is ∙ sym (commas_listed (bytes "(") (write x) (map write xs))) ∙ parts_joined comma _ _ ps in
          (series_iff (bytes "(") (bytes " ") (parts comma l) (x ∷ xs)).1 (h, same)
