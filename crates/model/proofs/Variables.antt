-- The variables of lines as bits, and what it says of a line that its bits meet those of the other mark.
use mathlib.Core.Path.{◌≡◌, refl, sym, ap, subst}
use mathlib.Core.Logic.{◌↔◌, ◌⊎◌, inl, inr, ⊎_elim}
use mathlib.Core.Bool.{true, ◌||◌}
use mathlib.Core.List.Memᴰ
use mathlib.Core.List.{List, [], ◌∷◌, ◌++◌}
use Prim.Native.Nat.{ℕ, ◌≤◌}
use native.Mathlib.Omega.{arith}
use lib.Bits.{bit_or}
use lib.Dec.{T, leb→le}
use lib.Ieee.Bits.{is_true}
use Rattle.theory.specs.Query.{Term, constant, shown, hidden, Line, ◌∈◌}
use Rattle.theory.specs.Executable.Test.{any}
use Rattle.theory.proofs.Executable.Test.{any_iff, same_iff, or_iff, same_test}
use Rattle.words.specs.Bits.{bit}
use Rattle.words.specs.Sets.{meet}
use Rattle.words.proofs.Bits.{bit_zero}
use Rattle.words.proofs.Masks.{bit_or_iff}
use Rattle.words.proofs.SetBits.{set_bit_iff}
use Rattle.words.proofs.Tests.{meet_iff}
use Rattle.words.proofs.Answers.{true_holds}
use Rattle.model.specs.Limits.{last_variable, term_within, line_within}
use Rattle.model.specs.Checks.{opposite, clashing}
use Rattle.model.specs.Parsed.{with_shown, with_hidden, bits_of}
use Rattle.model.specs.Variables.{Bits, Marked}
use Rattle.model.proofs.Limits.{line_within_iff}

-- ---- the bits of a line

-- `add` sets the bits of the variables that `mark` makes, and of no other term; within the limits no number is past the last variable
record Kind (mark : ℕ → Term) (add : ℕ → Term → ℕ) : Type 0 where
  adds : (m n : ℕ) (t : Term) → (bit (add m t) n ≡ 1) ↔ ((bit m n ≡ 1) ⊎ (mark n ≡ t))
  small : (n : ℕ) → T (term_within (mark n)) → n ≤ last_variable

-- a term of another kind leaves the word
left : {P Q : Type 0} → (Q → ⊥) → P ↔ (P ⊎ Q)
left f = (inl, ⊎_elim (λ p. p) (λ q. absurd (f q)))

-- a variable of the kind sets its bit
put : {P Q R S : Type 0} → P ↔ (Q ⊎ R) → (R → S) → (S → R) → P ↔ (Q ⊎ S)
put h f g = (λ p. ⊎_elim (λ q. inl q) (λ r. inr (f r)) (h.0 p), λ s. h.1 (⊎_elim (λ q. inl q) (λ r. inr (g r)) s))

shown_adds : (m n : ℕ) (t : Term) → (bit (with_shown m t) n ≡ 1) ↔ ((bit m n ≡ 1) ⊎ (shown n ≡ t))
unfolding with_shown
shown_adds m n (constant c) = left (λ e. let z : ◌≡◌ {A = ℕ} 0 1 = cc in omega arith)
shown_adds m n (shown k) = put (set_bit_iff m k n) (λ e. ap shown (sym e)) (λ e. cc)
shown_adds m n (hidden k) = left (λ e. let z : ◌≡◌ {A = ℕ} 0 1 = cc in omega arith)

hidden_adds : (m n : ℕ) (t : Term) → (bit (with_hidden m t) n ≡ 1) ↔ ((bit m n ≡ 1) ⊎ (hidden n ≡ t))
unfolding with_hidden
hidden_adds m n (constant c) = left (λ e. let z : ◌≡◌ {A = ℕ} 0 1 = cc in omega arith)
hidden_adds m n (shown k) = left (λ e. let z : ◌≡◌ {A = ℕ} 0 1 = cc in omega arith)
hidden_adds m n (hidden k) = put (set_bit_iff m k n) (λ e. ap hidden (sym e)) (λ e. cc)

shown_kind : Kind shown with_shown
unfolding term_within
shown_kind = record { adds = shown_adds; small = λ n h. leb→le n last_variable h }

hidden_kind : Kind hidden with_hidden
unfolding term_within
hidden_kind = record { adds = hidden_adds; small = λ n h. leb→le n last_variable h }

module _ {mark : ℕ → Term} {add : ℕ → Term → ℕ} (kind : Kind mark add) where
  bits_from : (m n : ℕ) (ts : List Term) → (bit (bits_of add m ts) n ≡ 1) ↔ ((bit m n ≡ 1) ⊎ (mark n ∈ ts))
  unfolding bits_of
  bits_from m n [] = left Memᴰ.not-nil
  bits_from m n (t ∷ ts) = let r = bits_from (add m t) n ts in (
    λ e. ⊎_elim (λ b. ⊎_elim (λ x. inl x) (λ x. inr (Memᴰ.head x)) ((kind.adds m n t).0 b)) (λ i. inr (Memᴰ.tail i)) (r.0 e),
    λ s. r.1 (⊎_elim (λ b. inl ((kind.adds m n t).1 (inl b)))
        (λ i. ⊎_elim (λ x. inl ((kind.adds m n t).1 (inr x))) (λ x. inr x) (Memᴰ.cases_cons i)) s),
  )

  -- the bits of a line are its variables
  bits_of_lem : (n : ℕ) (ts : List Term) → (bit (bits_of add 0 ts) n ≡ 1) ↔ (mark n ∈ ts)
  bits_of_lem n ts = let r = bits_from 0 n ts in
      (λ e. ⊎_elim (λ b. absurd (omega (arith, bit_zero n))) (λ i. i) (r.0 e), λ i. r.1 (inr i))

  -- the lines `more` are the line A and the lines `earlier`
  bits_more : (earlier more : List Line) (A : Line) (word : ℕ) → ((B : Line) → (B ∈ more) ↔ ((B ∈ earlier) ⊎ (B ≡ A)))
      → Bits mark earlier word → Bits mark more (bit_or word (bits_of add 0 A.columns))
  bits_more earlier more A word both known n h = let o = bit_or_iff word (bits_of add 0 A.columns) n in (
    λ e. ⊎_elim (λ b. let r = (known n h).0 b in (r.0, (both r.0).1 (inl r.1), r.2))
        (λ b. (A, (both A).1 (inr refl), (bits_of_lem n A.columns).0 b)) (o.0 e),
    λ s. o.1 (⊎_elim (λ i. inl ((known n h).1 (s.0, i, s.2)))
        (λ e. inr ((bits_of_lem n A.columns).1 (subst (λ (B : Line). mark n ∈ B.columns) e s.2))) ((both s.0).0 s.1)),
  )

  bits_in_front : (earlier : List Line) (A : Line) (word : ℕ) → Bits mark earlier word
      → Bits mark (A ∷ earlier) (bit_or word (bits_of add 0 A.columns))
  bits_in_front earlier A word =
      bits_more earlier (A ∷ earlier) A word
      (λ B. (λ i. ⊎_elim (λ e. inr e) (λ x. inl x) (Memᴰ.cases_cons i), ⊎_elim (λ i. Memᴰ.tail i) (λ e. Memᴰ.head e)))

  bits_behind : (earlier : List Line) (A : Line) (word : ℕ) → Bits mark earlier word
      → Bits mark (earlier ++ A ∷ []) (bit_or word (bits_of add 0 A.columns))
  bits_behind earlier A word =
      bits_more earlier (earlier ++ A ∷ []) A word
      (λ B. (
        λ i. ⊎_elim (λ x. inl x) (λ x. inr (Memᴰ.eq_of_singleton x)) (Memᴰ.append_cases earlier i),
        ⊎_elim (λ i. Memᴰ.append_left (A ∷ []) i) (λ e. Memᴰ.append_right earlier (Memᴰ.head e)),
      ))

  bits_none : Bits mark [] 0
  bits_none n h = (λ e. absurd (omega (arith, bit_zero n)), λ s. absurd (Memᴰ.not-nil s.1))

pub marked_none : Marked [] 0 0
marked_none = record { shown_bits = bits_none shown_kind; hidden_bits = bits_none hidden_kind }

-- a line more, with its shown and its hidden variables
pub marked_more : (earlier : List Line) (A : Line) (s h : ℕ) → Marked earlier s h
    → Marked (earlier ++ A ∷ []) (bit_or s (bits_of with_shown 0 A.columns)) (bit_or h (bits_of with_hidden 0 A.columns))
marked_more earlier A s h m = record {
  shown_bits = bits_behind shown_kind earlier A s m.shown_bits;
  hidden_bits = bits_behind hidden_kind earlier A h m.hidden_bits;
}

-- ---- a number with both marks

-- a number stands with the one mark in A, and with the other in A or an earlier line
abbrev Crossed : (ℕ → Term) → (ℕ → Term) → List Line → Line → Type 0
Crossed mark other earlier A =
    (n : ℕ) × (mark n ∈ A.columns) × ((B : Line) × (B ∈ A ∷ earlier) × (other n ∈ B.columns))

module _ (earlier : List Line) (A : Line) where
  opposite_to : (t : Term) → t ∈ A.columns → ((B : Line) × (B ∈ A ∷ earlier) × ((u : Term) × (u ∈ B.columns) × T (opposite t u)))
      → Crossed shown hidden earlier A ⊎ Crossed hidden shown earlier A
  unfolding opposite
  opposite_to (constant c) i r = absurd r.2.2
  opposite_to (shown n) i r =
      let (B, b, s) = r in let (u, j, o) = s in inl (n, i, (B, b, subst (λ (t : Term). t ∈ B.columns) ((same_iff u (hidden n)).0 o) j))
  opposite_to (hidden n) i r =
      let (B, b, s) = r in let (u, j, o) = s in inr (n, i, (B, b, subst (λ (t : Term). t ∈ B.columns) ((same_iff u (shown n)).0 o) j))

  clash_to : T (clashing earlier A) → Crossed shown hidden earlier A ⊎ Crossed hidden shown earlier A
  unfolding clashing
  clash_to h =
      let r = (any_iff (λ t. any (λ B. any (opposite t) B.columns) (A ∷ earlier)) A.columns).0 h in
      let s = (any_iff (λ B. any (opposite r.0) B.columns) (A ∷ earlier)).0 r.2 in
      opposite_to r.0 r.1 (s.0, s.1, (any_iff (opposite r.0) s.0.columns).0 s.2)

  clash_from : (mark other : ℕ → Term) → ((n : ℕ) → T (opposite (mark n) (other n))) → Crossed mark other earlier A → T (clashing earlier A)
  unfolding clashing
  clash_from mark other o r =
      let t = mark r.0 in
      (any_iff (λ x. any (λ B. any (opposite x) B.columns) (A ∷ earlier)) A.columns).1 (
        t,
        r.1,
        (any_iff (λ B. any (opposite t) B.columns) (A ∷ earlier)).1
            (r.2.0, r.2.1, (any_iff (opposite t) r.2.0.columns).1 (other r.0, r.2.2, o r.0)),
      )

shown_hidden : (n : ℕ) → T (opposite (shown n) (hidden n))
unfolding opposite
shown_hidden n = (same_iff (hidden n) (hidden n)).1 refl

hidden_shown : (n : ℕ) → T (opposite (hidden n) (shown n))
unfolding opposite
hidden_shown n = (same_iff (shown n) (shown n)).1 refl

-- ---- a line within its limits

module _ (earlier : List Line) (A : Line) (within : T (line_within A)) where
  -- its bits of one kind meet those of the other, of the line and the earlier ones, where a number is crossed
  meets_crossed : {mark other : ℕ → Term} {add add' : ℕ → Term → ℕ} → Kind mark add → Kind other add' → (word : ℕ) → Bits other earlier word
      → (meet 64 (bits_of add 0 A.columns) (bit_or word (bits_of add' 0 A.columns)) ≡ true) ↔ Crossed mark other earlier A
  meets_crossed {mark} {other} {add} {add'} one two word known =
      let ts = A.columns in
      let m = meet_iff 64 (bits_of add 0 ts) (bit_or word (bits_of add' 0 ts)) in
      let all_Known = bits_in_front two earlier A word known in (
        λ e. let r = m.0 e in (r.0, (bits_of_lem one r.0 ts).0 r.2, (all_Known r.0 (omega (arith, r.1))).0 r.3),
        λ r. let l = one.small r.0 (((line_within_iff A).0 within).1 (mark r.0) r.1) in
            m.1 (r.0, omega (arith, l), (bits_of_lem one r.0 ts).1 r.1, (all_Known r.0 l).1 r.2),
      )

  -- the two tests together are the clash
  pub clash_words : (s h : ℕ) → Marked earlier s h
      → (meet 64 (bits_of with_shown 0 A.columns) (bit_or h (bits_of with_hidden 0 A.columns))
      || meet 64 (bits_of with_hidden 0 A.columns) (bit_or s (bits_of with_shown 0 A.columns)))
      ≡ clashing earlier A
  clash_words s h marked =
      let a = meet 64 (bits_of with_shown 0 A.columns) (bit_or h (bits_of with_hidden 0 A.columns)) in
      let b = meet 64 (bits_of with_hidden 0 A.columns) (bit_or s (bits_of with_shown 0 A.columns)) in
      let one = meets_crossed shown_kind hidden_kind h marked.hidden_bits in
      let two = meets_crossed hidden_kind shown_kind s marked.shown_bits in
      same_test (a || b) (clashing earlier A)
      (λ t. ⊎_elim (λ x. clash_from earlier A shown hidden shown_hidden (one.0 (is_true a x)))
      (λ x. clash_from earlier A hidden shown hidden_shown (two.0 (is_true b x))) ((or_iff a b).0 t))
      (λ t. (or_iff a b).1
      (⊎_elim (λ r. inl (true_holds (one.1 r))) (λ r. inr (true_holds (two.1 r))) (clash_to earlier A t)))
