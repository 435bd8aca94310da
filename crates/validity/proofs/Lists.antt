-- Facts on lists that the kit's libraries lack.
use mathlib.Core.Path.{◌≡◌, refl, sym, ◌∙◌}
use mathlib.Core.List.{List, [], ◌∷◌}
use Prim.Native.Nat.{ℕ, zero, suc, ◌<◌}
use native.Mathlib.Nat.{not-suc-le-zero, le_of_suc-le-suc}
use lib.ListN.{length, get_or, replicate, length-replicate, get_or-replicate}
use lib.Seq.{ext_get_or}

-- whatever is said to stand behind a list's end, it is the same within the list
pub any_default : {X : Type 0} (d e : X) (l : List X) (k : ℕ) → k < length l → get_or l k d ≡ get_or l k e
any_default d e [] k h = absurd (not-suc-le-zero h)
any_default d e (x ∷ l) zero h = refl
any_default d e (x ∷ l) (suc k) h = any_default d e l k (le_of_suc-le-suc h)

-- copies of what is said to stand behind them
pub only_default : {X : Type 0} (d : X) (n k : ℕ) → get_or (replicate n d) k d ≡ d
only_default d zero k = refl
only_default d (suc n) zero = refl
only_default d (suc n) (suc k) = only_default d n k

pub all_same : {X : Type 0} (d : X) (l : List X) → ((k : ℕ) → k < length l → get_or l k d ≡ d) → l ≡ replicate (length l) d
all_same d l h =
    ext_get_or d l (replicate (length l) d) (sym (length-replicate (length l) d))
    (λ k b. h k b ∙ sym (get_or-replicate (length l) k d d b))
