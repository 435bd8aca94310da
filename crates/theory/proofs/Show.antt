-- Document 01, "Showing": in a query without a clash, terms that differ are shown as terms that differ.
use mathlib.Core.Path.{◌≡◌, sym}
use mathlib.Core.Logic.{⊎_elim}
use mathlib.Core.List.Memᴰ
use Prim.Native.Nat.{ℕ}
use native.Mathlib.Omega.{arith}
use Rattle.theory.specs.Query.{Term, constant, shown, hidden, Line, Query, ◌∈◌, NoClash}
use Rattle.theory.specs.Executable.Show.{show_term}
use Rattle.theory.proofs.Executable.Show.{show_shows}

module _ (R : Query) where
  show_constant : (c n : ℕ) → constant c ≡ show_term R (hidden n) → constant c ≡ hidden n
  show_constant c n e = ⊎_elim (λ r. cc) (λ r. cc) (show_shows R (hidden n))

  -- A hidden variable is not shown as a shown one that stands in the query already.
  show_apart : NoClash R → (n k : ℕ) (A B : Line) → A ∈ R → B ∈ R → shown n ∈ A.columns → hidden k ∈ B.columns
      → shown n ≡ show_term R (hidden k) → ⊥
  show_apart clear n k A B a b i j e =
      ⊎_elim (λ r. clear n A B a b i (Memᴰ.cast (cc) j))
      (λ r. let z : ◌≡◌ {A = ℕ} 0 1 = cc in omega arith) (show_shows R (hidden k))

  show_hidden : (n k : ℕ) → show_term R (hidden n) ≡ show_term R (hidden k) → hidden n ≡ hidden k
  show_hidden n k e =
      ⊎_elim
      (λ r. ⊎_elim (λ q. cc) (λ q. cc) (show_shows R (hidden k)))
      (λ r. ⊎_elim (λ q. cc) (λ q. cc) (show_shows R (hidden k)))
      (show_shows R (hidden n))

pub show_one_to_one : (R : Query) → NoClash R → (t u : Term) (A B : Line) → A ∈ R → B ∈ R → t ∈ A.columns → u ∈ B.columns
    → show_term R t ≡ show_term R u → t ≡ u
unfolding show_term
show_one_to_one R clear (constant c) (constant d) A B a b i j e = e
show_one_to_one R clear (constant c) (shown n) A B a b i j e = e
show_one_to_one R clear (constant c) (hidden n) A B a b i j e = show_constant R c n e
show_one_to_one R clear (shown n) (constant d) A B a b i j e = e
show_one_to_one R clear (shown n) (shown k) A B a b i j e = e
show_one_to_one R clear (shown n) (hidden k) A B a b i j e = absurd (show_apart R clear n k A B a b i j e)
show_one_to_one R clear (hidden n) (constant d) A B a b i j e = sym (show_constant R d n (sym e))
show_one_to_one R clear (hidden n) (shown k) A B a b i j e = absurd (show_apart R clear k n B A b a j i (sym e))
show_one_to_one R clear (hidden n) (hidden k) A B a b i j e = show_hidden R n k e
