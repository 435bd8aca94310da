-- Parts joined by the byte that parts them are the text again, and parts that lack it are read back.
use mathlib.Core.Path.{◌≡◌, refl, sym, ap, ap₂, ◌∙◌}
use mathlib.Core.Bool.{Bool, true, false, cond}
use mathlib.Core.List.Memᴰ
use mathlib.Core.List.{List, [], ◌∷◌, ◌++◌}
use Prim.Native.Nat.{ℕ}
use lib.Dec.{eqb}
use borrow.Author.Tests.{eqb-true}
use Rattle.text.specs.Lines.{Split, push, split, parts}
use Rattle.text.specs.Print.{joined_by}
use Rattle.text.proofs.Each.{Each}
use Rattle.text.proofs.Lines.{Free, split_pieces, split_clean}

-- a byte in front of the first part is a byte in front of them all
join_front : (sep b : ℕ) (p : List ℕ) (ps : List (List ℕ)) → joined_by sep ((b ∷ p) ∷ ps) ≡ b ∷ joined_by sep (p ∷ ps)
unfolding joined_by
join_front sep b p [] = refl
join_front sep b p (q ∷ ps) = refl

-- the parts of a split
abbrev parts_of : Split → List (List ℕ)
parts_of s = s.ended ++ s.rest ∷ []

pub joined_parts : (sep : ℕ) (l : List ℕ) → joined_by sep (parts sep l) ≡ l
unfolding parts split joined_by push
joined_parts sep [] = refl
joined_parts sep (b ∷ l) = go (eqb b sep) refl (split sep l) (joined_parts sep l)
  where
    empty : (e : List (List ℕ)) (r : List ℕ) → joined_by sep ([] ∷ (e ++ r ∷ [])) ≡ sep ∷ joined_by sep (e ++ r ∷ [])
    empty [] r = refl
    empty (p ∷ e) r = refl

    pushed : (e : List (List ℕ)) (r : List ℕ)
        → joined_by sep (parts_of (push b (record { ended = e; rest = r }))) ≡ b ∷ joined_by sep (e ++ r ∷ [])
    pushed [] r = join_front sep b r []
    pushed (p ∷ e) r = join_front sep b p (e ++ r ∷ [])

    go : (t : Bool) → eqb b sep ≡ t → (s : Split) → joined_by sep (parts_of s) ≡ l
        → joined_by sep (parts_of (cond t (record { ended = [] ∷ s.ended; rest = s.rest }) (push b s))) ≡ b ∷ l
    go true q s rest = empty s.ended s.rest ∙ ap₂ {C = List ℕ} ◌∷◌ (sym (eqb-true b sep q)) rest
    go false q s rest = pushed s.ended s.rest ∙ ap (λ (m : List ℕ). b ∷ m) rest

-- there is a part
pub parts_cons : (sep : ℕ) (l : List ℕ) → (p : List ℕ) × (ps : List (List ℕ)) × (parts sep l ≡ p ∷ ps)
unfolding parts
parts_cons sep l = go (split sep l).ended (split sep l).rest
  where
    go : (e : List (List ℕ)) (r : List ℕ) → (p : List ℕ) × (ps : List (List ℕ)) × (e ++ r ∷ [] ≡ p ∷ ps)
    go [] r = (r, [], refl)
    go (p ∷ e) r = (p, e ++ r ∷ [], refl)

pub parts_joined : (sep : ℕ) (p : List ℕ) (ps : List (List ℕ)) → Each (Free sep) (p ∷ ps) → parts sep (joined_by sep (p ∷ ps)) ≡ p ∷ ps
unfolding parts joined_by
parts_joined sep p [] h = rw (split_clean sep p (h p (Memᴰ.head refl)))
parts_joined sep p (q ∷ ps) h =
    rw (split_pieces sep p (joined_by sep (q ∷ ps)) (h p (Memᴰ.head refl)))
    (ap (λ (l : List (List ℕ)). p ∷ l) (parts_joined sep q ps (λ k m. h k (Memᴰ.tail m))))
