-- The contract's relation fixes the page: for a policy, a partition and a query there is one.
use mathlib.Core.Path.{◌≡◌, sym, ap, ◌∙◌}
use mathlib.Core.List.{List}
use Prim.Native.Nat.{ℕ, ◌-◌}
use Rattle.policy_text.specs.Declared.{Declared}
use Rattle.policy_text.specs.Text.{Loading, refused, accepted, load}
use Rattle.grants.specs.Granting.{Owed, refusal, nothing, list, owed}
use Rattle.grants.proofs.Unique.{smallest_unique}
use Rattle.mode_grant.specs.GrantPage.{grant_lines, PageOf, GrantLoaded, GrantPage}

owed_page : (d : Declared) (i : ℕ) (query a b : List ℕ) (o : Owed) → PageOf d i query a o → PageOf d i query b o → a ≡ b
owed_page d i query a b (refusal k j) e f = e ∙ sym f
owed_page d i query a b (nothing Q) (e, p) (f, q) = e ∙ sym f
owed_page d i query a b (list Q) (k, s, e) (l, t, f) = e ∙ ap (grant_lines d.views) (smallest_unique d i Q k l s t) ∙ sym f

loaded_page : (policy : List ℕ) (n : ℕ) (query a b : List ℕ) (l : Loading) → GrantLoaded policy n query a l
    → GrantLoaded policy n query b l → a ≡ b
loaded_page policy n query a b (refused k j) e f = e ∙ sym f
loaded_page policy n query a b (accepted d) g h = owed_page d (n - 1) query a b (owed d n query) g h

pub one_page : (policy : List ℕ) (n : ℕ) (query a b : List ℕ) → GrantPage policy n query a → GrantPage policy n query b → a ≡ b
one_page policy n query a b = loaded_page policy n query a b (load policy)
