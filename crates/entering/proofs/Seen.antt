-- Variables seen in the lines so far: in one of them, and in two.
use mathlib.Core.Path.{◌≡◌, refl, subst}
use mathlib.Core.Logic.{◌↔◌, inl, inr, ⊎_elim}
use mathlib.Core.Bool.{Bool, true, false, cond, ◌&&◌, ◌||◌, and-false, or-false}
use mathlib.Core.List.{List, [], ◌∷◌, ◌++◌, append-nil}
use Prim.Native.Nat.{ℕ, ◌≤◌}
use native.Mathlib.Omega.{arith}
use lib.Bits.{bit_and, bit_or}
use lib.Dec.{T}
use Rattle.theory.specs.Query.{Term, constant, hidden, Line, Query, ◌∈◌}
use Rattle.theory.specs.Executable.Test.{any}
use Rattle.theory.specs.Executable.Show.{stands_in, shared}
use Rattle.theory.proofs.Tuples.{get_d_mem, mem_get_d}
use Rattle.theory.proofs.Executable.Test.{any_more, and_iff, or_iff}
use Rattle.theory.proofs.Executable.Show.{stands_in_iff}
use Rattle.words.specs.Bits.{bit}
use Rattle.words.proofs.Bits.{bit_zero}
use Rattle.words.proofs.Masks.{bit_and_iff, bit_or_iff}
use Rattle.model.specs.Limits.{last_variable}
use Rattle.entering.specs.Showing.{SharedWord}
use Rattle.entering.specs.Worded.{HiddenAt}

-- ---- one line more, where it is there

any_if : {X : Type 0} (f : X → Bool) (l : List X) (b : Bool) (x : X) → any f (l ++ cond b (x ∷ []) []) ≡ (any f l || (b && f x))
any_if f l true x = any_more f l x
any_if f l false x = rw (append-nil l, or-false)

spread : (a b c d : Bool) → ((a && (b || c)) || (d || (b && c))) ≡ (((a && b) || d) || ((a || b) && c))
spread false b c d = refl
spread true true c d = refl
spread true false true true = refl
spread true false true false = refl
spread true false false true = refl
spread true false false false = refl

shared_more : (n : ℕ) (R : Query) (b : Bool) (A : Line)
    → shared (R ++ cond b (A ∷ []) []) n ≡ (shared R n || (any (stands_in n) R && (b && stands_in n A)))
unfolding shared any
shared_more n [] true A = rw (and-false (stands_in n A))
shared_more n [] false A = refl
shared_more n (B ∷ R) b A =
    rw (any_if (stands_in n) R b A, shared_more n R b A)
    (spread (stands_in n B) (any (stands_in n) R) (b && stands_in n A) (shared R n))

-- ---- the words of what was seen

pub record Seen (R : Query) (once twice : ℕ) : Type 0 where
  pub ones : (n : ℕ) → n ≤ last_variable → (bit once n ≡ 1) ↔ T (any (stands_in n) R)
  pub twos : SharedWord R twice

pub seen_none : Seen [] 0 0
unfolding any shared
seen_none = record {
  ones = λ n l. (λ e. absurd (omega (arith, bit_zero n)), λ t. absurd t);
  twos = λ n l. (λ e. absurd (omega (arith, bit_zero n)), λ t. absurd t);
}

-- a variable stands in a line where one of its columns has it
hidden_in : (A : Line) (n : ℕ) → ((p : ℕ) × HiddenAt A n p) ↔ (hidden n ∈ A.columns)
hidden_in A n = (
  λ r. subst (λ (t : Term). t ∈ A.columns) r.1.is (get_d_mem A.columns r.0 (constant 0) r.1.there),
  λ m. let (p, l, e) = mem_get_d (constant 0) m in (p, record { there = l; is = e }),
)

-- the word of a line, where the line is there
bit_if : (there : Bool) (w n : ℕ) → (bit (cond there w 0) n ≡ 1) ↔ (T there × (bit w n ≡ 1))
bit_if true w n = (λ e. (tt, e), λ r. r.1)
bit_if false w n = (λ e. absurd (omega (arith, bit_zero n)), λ r. absurd r.0)

module _ {R : Query} {once twice : ℕ} (s : Seen R once twice) (there : Bool) (A : Line) (v : ℕ)
    (word : (n : ℕ) → (bit v n ≡ 1) ↔ ((p : ℕ) × HiddenAt A n p)) where
  abbrev w : ℕ
  w = cond there v 0

  here : (n : ℕ) → (bit w n ≡ 1) ↔ T (there && stands_in n A)
  here n =
      let b = bit_if there v n in
      let h = hidden_in A n in
      let i = stands_in_iff n A in
      let a = and_iff there (stands_in n A) in (
        λ e. let (t, r) = b.0 e in a.1 (t, i.1 (h.0 ((word n).0 r))),
        λ t. let (t, r) = a.0 t in b.1 (t, (word n).1 (h.1 (i.0 r))),
      )

  one_more : (n : ℕ) → n ≤ last_variable → (bit (bit_or once w) n ≡ 1) ↔ T (any (stands_in n) R || (there && stands_in n A))
  one_more n l =
      let o = bit_or_iff once w n in
      let b = or_iff (any (stands_in n) R) (there && stands_in n A) in (
        λ e. b.1 (⊎_elim (λ x. inl ((s.ones n l).0 x)) (λ x. inr ((here n).0 x)) (o.0 e)),
        λ t. o.1 (⊎_elim (λ x. inl ((s.ones n l).1 x)) (λ x. inr ((here n).1 x)) (b.0 t)),
      )

  two_more : (n : ℕ) → n ≤ last_variable
      → (bit (bit_or twice (bit_and once w)) n ≡ 1) ↔ T (shared R n || (any (stands_in n) R && (there && stands_in n A)))
  two_more n l =
      let o = bit_or_iff twice (bit_and once w) n in
      let k = bit_and_iff once w n in
      let a = and_iff (any (stands_in n) R) (there && stands_in n A) in
      let b = or_iff (shared R n) (any (stands_in n) R && (there && stands_in n A)) in (
        λ e.
            let both : bit (bit_and once w) n ≡ 1 → T (any (stands_in n) R && (there && stands_in n A)) =
            λ x. let (y, z) = k.0 x in a.1 ((s.ones n l).0 y, (here n).0 z) in
            b.1 (⊎_elim (λ x. inl ((s.twos n l).0 x)) (λ x. inr (both x)) (o.0 e)),
        λ t.
            let both : T (any (stands_in n) R && (there && stands_in n A)) → bit (bit_and once w) n ≡ 1 =
            λ x. let (y, z) = a.0 x in k.1 ((s.ones n l).1 y, (here n).1 z) in
            o.1 (⊎_elim (λ x. inl ((s.twos n l).1 x)) (λ x. inr (both x)) (b.0 t)),
      )

  pub seen_more : Seen (R ++ cond there (A ∷ []) []) (bit_or once w) (bit_or twice (bit_and once w))
  seen_more = record {
    ones = λ n l. rw (any_if (stands_in n) R there A) (one_more n l);
    twos = λ n l. rw (shared_more n R there A) (two_more n l);
  }
