-- The smallest extra grant is one list at most, and the empty one exactly where the partition determines the query by itself.
use mathlib.Core.Path.{◌≡◌, sym}
use mathlib.Core.Logic.{⊎_elim}
use mathlib.Core.List.Memᴰ
use mathlib.Core.List.{List, []}
use Prim.Native.Nat.{ℕ}
use native.Mathlib.Nat.{le_antisymm}
use native.Mathlib.Omega.{arith}
use lib.ListN.{length}
use Rattle.theory.specs.Query.{Query}
use Rattle.theory.proofs.Lists.{none_long}
use Rattle.policy_text.specs.Declared.{Declared, PartitionDetermines}
use Rattle.hitting.specs.Order.{Lower, here, further}
use Rattle.grants.specs.Smallest.{Smallest}
use Rattle.grants.proofs.Added.{determines_with_none}

lower_once : {k l : List ℕ} → Lower k l → Lower l k → ⊥
lower_once (here h) (here g) = omega (arith, h, g)
lower_once (here h) (further e r) = omega (arith, h, e)
lower_once (further e r) (here g) = omega (arith, g, e)
lower_once (further e r) (further f s) = lower_once r s

pub smallest_unique : (d : Declared) (i : ℕ) (Q : Query) (k l : List ℕ) → Smallest d i Q k → Smallest d i Q l → k ≡ l
smallest_unique d i Q k l a b =
    let same : length k ≡ length l = le_antisymm (a.fewest l b.known b.enough) (b.fewest k a.known a.enough) in
    ⊎_elim (λ e. sym e)
    (λ h. ⊎_elim (λ e. e) (λ g. absurd (lower_once h g)) (b.first k a.known a.enough same))
    (a.first l b.known b.enough (sym same))

-- ---- nothing to add

pub smallest_settled : (d : Declared) (i : ℕ) (Q : Query) (added : List ℕ) → Smallest d i Q added → PartitionDetermines d i Q → added ≡ []
smallest_settled d i Q added s p =
    let short = s.fewest [] (λ n m. absurd (Memᴰ.not-nil m)) ((determines_with_none d i Q).1 p) in
    none_long added (omega (arith, short))

pub settled_smallest : (d : Declared) (i : ℕ) (Q : Query) → Smallest d i Q [] → PartitionDetermines d i Q
settled_smallest d i Q s = (determines_with_none d i Q).0 s.enough
