-- Two tests of the same elements, compared by their words: the words meet where some element passes both, and one includes the other
-- where every element that passes one test passes the other.
use mathlib.Core.Path.{◌≡◌, sym, subst, ◌∙◌}
use mathlib.Core.Option.{some-injective}
use mathlib.Core.Bool.{Bool, not, ◌&&◌, ◌||◌}
use mathlib.Core.List.{List}
use Prim.Native.Nat.{ℕ, ◌≤◌}
use native.Mathlib.Omega.{arith}
use lib.Dec.{T}
use lib.ListN.{length}
use Rattle.words.specs.Sets.{meet, include}
use Rattle.words.specs.TestBits.{test_bits}
use Rattle.words.proofs.Answers.{true_holds, holds_true}
use Rattle.words.proofs.Bits.{bit_within}
use Rattle.words.proofs.Tests.{meet_iff, include_iff}
use Rattle.words.proofs.TestBits.{tests_bit, tests_below, both_there}
use Rattle.theory.specs.Query.{◌∈◌}
use Rattle.theory.specs.Executable.Test.{all, any}
use Rattle.theory.proofs.Lists.{place, at_place}
use Rattle.theory.proofs.Executable.Test.{and_iff, all_iff, any_iff, same_test, implies_iff}

module _ {X : Type 0} (f g : X → Bool) (l : List X) (w : ℕ) (few : length l ≤ w) where
  abbrev F : ℕ
  F = test_bits f l

  abbrev G : ℕ
  G = test_bits g l

  pub meet_tests : meet w F G ≡ any (λ x. f x && g x) l
  meet_tests = same_test _ _ met passed where
    met : T (meet w F G) → T (any (λ x. f x && g x) l)
    met t =
        let (k, b, p, q) = (meet_iff w F G).0 (sym (holds_true _ t)) in
        let (x, e, u, v) = both_there f g l k p q in
        (any_iff (λ x. f x && g x) l).1 (x, at_place l k e, (and_iff (f x) (g x)).1 (u, v))

    passed : T (any (λ x. f x && g x) l) → T (meet w F G)
    passed t =
        let (x, m, h) = (any_iff (λ x. f x && g x) l).0 t in
        let (u, v) = (and_iff (f x) (g x)).0 h in
        let (k, e) = place m in
        let a = (tests_bit f l k).1 (x, e, u) in
        true_holds
        ((meet_iff w F G).1
        (k, omega (arith, few, bit_within (length l) k (tests_below f l) a), a, (tests_bit g l k).1 (x, e, v)))

  pub include_tests : include w F G ≡ all (λ x. not (g x) || f x) l
  include_tests = same_test _ _ included passed where
    each : T (include w F G) → (x : X) → x ∈ l → T (g x) → T (f x)
    each t x m v =
        let (k, e) = place m in
        let b = (tests_bit g l k).1 (x, e, v) in
        let a = (include_iff w F G).0 (sym (holds_true _ t)) k (omega (arith, few, bit_within (length l) k (tests_below g l) b)) b in
        let (y, h, u) = (tests_bit f l k).0 a in subst (λ (z : X). T (f z)) (some-injective y x (sym h ∙ e)) u

    included : T (include w F G) → T (all (λ x. not (g x) || f x) l)
    included t = (all_iff (λ x. not (g x) || f x) l).1 (λ x m. (implies_iff (g x) (f x)).1 (each t x m))

    passed : T (all (λ x. not (g x) || f x) l) → T (include w F G)
    passed t =
        true_holds ((include_iff w F G).1 (λ k b c.
        let (x, e, v) = (tests_bit g l k).0 c in
        let u = (implies_iff (g x) (f x)).0 ((all_iff (λ x. not (g x) || f x) l).0 t x (at_place l k e)) v in
        (tests_bit f l k).1 (x, e, u)))
