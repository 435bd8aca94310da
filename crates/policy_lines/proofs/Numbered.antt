-- A line that starts with its number: the first space parts it from the fields that it numbers.
use mathlib.Core.Path.{◌≡◌, refl, sym, ap, ap₂, ◌∙◌}
use mathlib.Core.Bool.{true, false}
use mathlib.Core.List.{List, []}
use mathlib.Core.Option.{Option, none, some}
use Prim.Native.Nat.{ℕ, ◌+◌, ◌≤◌, zero-le}
use native.Mathlib.Nat.{zero-add}
use native.Mathlib.Omega.{arith}
use lib.ListN.{length, take}
use Rattle.text.specs.Lines.{space, fields, parts_from, before}
use Rattle.text.specs.Numeral.{constant_limit, numeral}
use Rattle.text.specs.Value.{limited, numeral_value}
use Rattle.text.specs.declared.Numeral.{Numeral}
use Rattle.text.specs.declared.Numeral.TheVariants.{Malformed}
use Rattle.model.specs.Fields.{both, Numbered, numbered}
use Rattle.model.specs.Limits.{up_to}
use Rattle.model.specs.Parsed.{up_to_value}
use Rattle.text.proofs.PartsFrom.{from_first, from_next, from_end}
use Rattle.model.proofs.UpTo.{malformed_none, formed_some, number_past, number_within}

-- ---- the line

abbrev pub numbered_of : {X : Type 0} → Option ℕ → Option X → Option (Numbered X)
numbered_of o q = both (λ n x. record { number = n; value = x }) o q

numbered_parted : {X : Type 0} (read : List (List ℕ) → Option X) (s : List ℕ) (n : ℕ) → n ≡ before space s
    → numbered read (fields s) ≡ numbered_of (numeral (take n s)) (read (parts_from space s (n + 1)))
unfolding numbered fields
numbered_parted read s n e = ap (numbered read) (sym (from_first space s) ∙ from_next space s 0 zero-le) ∙ rw (zero-add, e)

nothing_numbered : {X : Type 0} (o : Option ℕ) → numbered_of {X = X} o none ≡ none
unfolding both
nothing_numbered none = refl
nothing_numbered (some n) = refl

-- `number` is what the first field of line l says, and q what the others say
pub record NumberRead {X : Type 0} (l : Option (Numbered X)) (number : Numeral) (q : Option X) : Type 0 where
  pub first : Option ℕ
  pub parted : l ≡ numbered_of first q
  pub said : number ≡ limited first

pub number_read : {X : Type 0} (read : List (List ℕ) → Option X) (s : List ℕ) {n : ℕ} {number : Numeral} {q : Option X}
    → n ≡ before space s → number ≡ numeral_value (take n s) → read (parts_from space s (n + 1)) ≡ q
    → NumberRead (numbered read (fields s)) number q
unfolding numeral_value
number_read read s {n} e f g =
    record {
      first = numeral (take n s);
      parted = numbered_parted read s n e ∙ ap (numbered_of (numeral (take n s))) g;
      said = f;
    }

-- a line of its number alone
pub number_alone : {X : Type 0} (read : List (List ℕ) → Option X) (s : List ℕ) {n : ℕ} → n ≡ before space s
    → n ≡ length s → read [] ≡ none → numbered read (fields s) ≡ none
number_alone read s {n} e f g =
    numbered_parted read s n e ∙ ap (numbered_of (numeral (take n s))) (ap read (from_end space s n (omega arith)) ∙ g)
    ∙ nothing_numbered (numeral (take n s))

module _ {X : Type 0} {l : Option (Numbered X)} {number : Numeral} {q : Option X} (r : NumberRead l number q) where
  both_said : {n : ℕ} {x : X} → r.first ≡ some n → q ≡ some x → l ≡ some (record { number = n; value = x })
  unfolding both
  both_said e f = r.parted ∙ ap₂ {C = Option (Numbered X)} (λ o p. numbered_of o p) e f

  pub unnumbered : number ≡ Malformed → l ≡ none
  unfolding both
  unnumbered e = r.parted ∙ rw (malformed_none r.first (sym r.said ∙ e))

  pub nothing_read : q ≡ none → l ≡ none
  nothing_read e = r.parted ∙ rw e (nothing_numbered r.first)

  pub numbered_formed : {x : X} → q ≡ some x → (number ≡ Malformed → ⊥) → (n : ℕ) × (l ≡ some (record { number = n; value = x }))
  numbered_formed e f = let w = formed_some r.first (λ z. f (r.said ∙ z)) in (w.0, both_said w.1 e)

  module _ (most : ℕ) (small : most ≤ constant_limit) {k : ℕ} (up : k ≡ up_to_value number most) where
    up_is : k ≡ up_to_value (limited r.first) most
    up_is = up ∙ ap (λ (m : Numeral). up_to_value m most) r.said

    pub numbered_past : {x : X} → q ≡ some x → (number ≡ Malformed → ⊥) → k ≡ 0
        → (n : ℕ) × (l ≡ some (record { number = n; value = x })) × (up_to most n ≡ false)
    numbered_past e f z =
        let w = number_past most small r.first (λ g. f (r.said ∙ g)) (sym up_is ∙ z) in
        (w.0, both_said w.1 e, w.2)

    pub numbered_within : {x : X} → q ≡ some x → (k ≡ 0 → ⊥) → (l ≡ some (record { number = k; value = x })) × (up_to most k ≡ true)
    numbered_within e f =
        let w = number_within most small r.first (λ g. f (up_is ∙ g)) in
        let is : w.0 ≡ k = sym w.3 ∙ sym up_is in
        (both_said (w.1 ∙ ap some is) e, ap (up_to most) (sym is) ∙ w.2)
