-- The search for a key among others: its place, and what the place says of it.
use mathlib.Core.Path.{◌≡◌, refl, sym, ap, ap₂, ◌∙◌}
use mathlib.Core.Bool.{Bool, true, false, cond, ◌||◌}
use mathlib.Core.List.{List, [], ◌∷◌}
use Prim.Native.Nat.{ℕ, suc, ◌+◌, ◌≤◌, ◌<◌}
use native.Mathlib.Decide.{ℕ_discrete, dec_lt}
use native.Mathlib.Nat.{not-suc-le-zero}
use native.Mathlib.Numerals.{add-one}
use native.Mathlib.Omega.{arith}
use borrow.Author.Tests.{eq-eqb, ne_eqb, lt-ltb, le-ltb}
use lib.Dec.{eqb, ltb, eqb→eq}
use lib.ListN.{length, set}
use lib.Seq.{take-suc-set}
use Rattle.std.specs.Prelude.{Option, Some, None, MatchOption}
use Rattle.std.specs.Option.{unwrap_or}
use Rattle.std.specs.List.{list_any, position, position_or_len}
use Rattle.std.proofs.lemmas.List.Recursion.{is_position_or_len}
use Rattle.theory.specs.Executable.Test.{any}
use Rattle.words.proofs.Answers.{true_holds}
use Rattle.theory.proofs.Executable.Test.{same_test}
use Rattle.text.specs.Lines.{before}
use Rattle.text.proofs.Lines.{before_le}
use Rattle.numbering.specs.Names.{held, is_key, entered, Entered}
use Rattle.numbering.specs.declared.names.Names.{Names}

-- ---- the search

-- what the search for a key says of its place
abbrev pub Sought : ℕ → List ℕ → Option ℕ → Type 0
Sought k l o = MatchOption o (length l ≤ before k l) (λ n. (n < length l) × (n ≡ before k l))

module _ (k : ℕ) (l : List ℕ) {o : Option ℕ} (e : o ≡ position (λ x. eqb x k) l) where
  first : position_or_len (λ x. eqb x k) l ≡ before k l
  unfolding before
  first = sym (is_position_or_len (before k) (λ x. eqb x k) refl (λ x xs. ap (cond (eqb x k) 0) (omega arith)) l)

  pub sought : Sought k l o
  sought = rw (e, first) (go (dec_lt (before k l) (length l)))
    where
      go : Dec (before k l < length l) → Sought k l (cond (ltb (before k l) (length l)) (Some (before k l)) None)
      go (yes h) = rw (lt-ltb (before k l) (length l) h) (h, refl)
      go (no h) = let far : length l ≤ before k l = omega arith in rw (le-ltb (before k l) (length l) far) far

-- the place, or the end where there is none
pub place_or_end : (k : ℕ) (l : List ℕ) (o : Option ℕ) → Sought k l o → unwrap_or o (length l) ≡ before k l
place_or_end k l None h = omega (arith, h, before_le k l)
place_or_end k l (Some n) h = h.1

-- ---- a key that stands there, and one that does not

pub is_key_lem : (k : ℕ) (l : List ℕ) → before k l < length l → is_key k l ≡ true
unfolding before is_key any
is_key_lem k [] h = absurd (not-suc-le-zero h)
is_key_lem k (x ∷ l) h = go (ℕ_discrete x k) (λ g. is_key_lem k l g)
  where
    go : Dec (x ≡ k) → (before k l < length l → is_key k l ≡ true) → is_key k (x ∷ l) ≡ true
    go (yes e) f = rw (eq-eqb k x (sym e))
    go (no n) f =
        let more : before k (x ∷ l) ≡ suc (before k l) = rw (ne_eqb x k n) in
        rw (ne_eqb k x (λ e. n (sym e))) (f (omega (arith, h, more)))

pub no_key : (k : ℕ) (l : List ℕ) → length l ≤ before k l → is_key k l ≡ false
unfolding before is_key any
no_key k [] h = refl
no_key k (x ∷ l) h = go (ℕ_discrete x k) (λ g. no_key k l g)
  where
    go : Dec (x ≡ k) → (length l ≤ before k l → is_key k l ≡ false) → is_key k (x ∷ l) ≡ false
    go (yes e) f = let here : before k (x ∷ l) ≡ 0 = rw (eq-eqb x k e) in absurd (omega (arith, h, here))
    go (no n) f =
        let more : before k (x ∷ l) ≡ suc (before k l) = rw (ne_eqb x k n) in
        rw (ne_eqb k x (λ e. n (sym e))) (f (omega (arith, h, more)))

pub eqb_sym : (a b : ℕ) → eqb a b ≡ eqb b a
eqb_sym a b =
    same_test (eqb a b) (eqb b a) (λ t. true_holds (eq-eqb b a (sym (eqb→eq a b t)))) (λ t. true_holds (eq-eqb a b (sym (eqb→eq b a t))))

-- whether it stands there, as a test of each
is_key_any : (k : ℕ) (l : List ℕ) → is_key k l ≡ list_any (λ x. eqb x k) l
unfolding is_key any
is_key_any k [] = refl
is_key_any k (x ∷ l) = ap₂ {C = Bool} ◌||◌ (eqb_sym k x) (is_key_any k l)

pub any_keys : (k : ℕ) {l keys : List ℕ} {b : Bool} → keys ≡ l → b ≡ list_any (λ x. eqb x k) keys → b ≡ is_key k l
any_keys k {l} e f = f ∙ rw e (sym (is_key_any k l))

-- ---- a key entered

module _ (was : Names) (k : ℕ) where
  pub entered_known : is_key k (held was) ≡ true → Entered was k was
  unfolding entered
  entered_known e = record { keys = rw e; most = omega arith }

  pub entered_new : was.count < length was.keys → is_key k (held was) ≡ false
      → Entered was k (record { keys = set was.keys was.count k; count = was.count + 1 })
  unfolding entered
  entered_new long e = record { keys = rw (e, add-one was.count) (take-suc-set was.keys was.count k long); most = omega arith }
