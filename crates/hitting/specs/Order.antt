-- Request 5, of equally short lists, "the one with the lower number at the first difference wins".
use Rattle.std.specs.Prelude.{◌≡◌, List, ◌∷◌, ℕ, ◌<◌}

-- the first list has the lower number where the two first differ
pub data Lower : List ℕ → List ℕ → Type 0 where
  here : {x y : ℕ} {l m : List ℕ} → x < y → Lower (x ∷ l) (y ∷ m)
  further : {x y : ℕ} {l m : List ℕ} → x ≡ y → Lower l m → Lower (x ∷ l) (y ∷ m)
