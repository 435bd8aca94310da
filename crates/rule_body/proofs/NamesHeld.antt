-- A head with one name more: one that the body lacks, one that the head has, and one that is new to it.
use mathlib.Core.Path.{◌≡◌, refl, sym, ap, ◌∙◌}
use mathlib.Core.Bool.{true, false, true≢false, not, ◌||◌, and-true, and-false, or-true, or-false}
use mathlib.Core.List.{List, [], ◌∷◌, ◌++◌, map}
use Prim.Native.Nat.{ℕ, ◌≤◌, ◌<◌}
use native.Mathlib.Decide.{ℕ_discrete}
use native.Mathlib.Omega.{arith}
use lib.Dec.{eqb}
use lib.ListN.{length}
use borrow.Author.Tests.{eq-eqb, ne_eqb}
use Rattle.theory.specs.Executable.Test.{all, any}
use Rattle.theory.proofs.Executable.Test.{all_more}
use Rattle.words.specs.Bits.{is_set}
use Rattle.words.specs.Sets.{set_bit}
use Rattle.words.proofs.Bits.{is_set_lem, is_clear, bit_zero}
use Rattle.words.proofs.SetBits.{set_bit_same, set_bit_other}
use Rattle.text.specs.Lines.{before}
use Rattle.rules.specs.Rule.{Name}
use Rattle.rule_text.specs.Keys.{key}
use Rattle.numbering.specs.Names.{is_key}
use Rattle.numbering.proofs.Search.{is_key_lem, no_key}
use Rattle.rule_body.specs.Head.{placed_at, repeats_key, NamesHeld}
use Rattle.rule_body.specs.declared.head.Head.{Head}
use Rattle.rule_body.proofs.KeyPlaces.{placed_more, repeats_more, placed_key}

pub held_none : (keys : List ℕ) → NamesHeld keys [] (record { missing = false; twice = false; shown = 0 })
unfolding all repeats_key placed_at any
held_none keys = record { missing = refl; twice = λ e. refl; shown = λ n h. is_clear 0 n (bit_zero n) }

-- ---- bits

-- the bits of one word are those of another, and bit k
abbrev BitAdded : ℕ → ℕ → ℕ → Type 0
BitAdded was k is = (n : ℕ) → is_set is n ≡ (is_set was n || eqb k n)

bit_there : (m k : ℕ) → is_set m k ≡ true → BitAdded m k m
bit_there m k e n = go (ℕ_discrete k n)
  where
    go : Dec (k ≡ n) → is_set m n ≡ (is_set m n || eqb k n)
    go (yes p) = rw (← p, e)
    go (no f) = rw (ne_eqb k n f, or-false)

bit_set : (m k : ℕ) → BitAdded m k (set_bit m k)
bit_set m k n = go (ℕ_discrete k n)
  where
    go : Dec (k ≡ n) → is_set (set_bit m k) n ≡ (is_set m n || eqb k n)
    go (yes p) = rw (eq-eqb k n p, or-true, ← p) (is_set_lem (set_bit m k) k (set_bit_same m k))
    go (no f) = rw (ne_eqb k n f, or-false, set_bit_other m k n (λ e. f (sym e)))

-- ---- the name behind

module _ (keys : List ℕ) (xs : List Name) (x : Name) {h : Head} (held : NamesHeld keys xs h) where
  -- the body lacks it
  pub held_missing : length keys ≤ before (key x) keys
      → NamesHeld keys (xs ++ x ∷ []) (record { missing = true; twice = h.twice; shown = h.shown })
  held_missing far =
      record {
        missing = rw (all_more, no_key (key x) keys far, and-false);
        twice = λ e. absurd (true≢false e);
        shown =
            λ n l.
            rw (placed_more keys xs x n, ne_eqb (before (key x) keys) n (λ e. omega (arith, e, far, l)), or-false) (held.shown n l);
      }

  module _ {place : ℕ} (near : place < length keys) (at : place ≡ before (key x) keys) where
    there : before (key x) keys < length keys
    there = omega (arith, near, at)

    found : h.missing ≡ not (all (λ y. is_key (key y) keys) (xs ++ x ∷ []))
    found = rw (all_more, is_key_lem (key x) keys there, and-true) held.missing

    -- the place of the name has its bit
    known : is_set h.shown place ≡ is_key (key x) (map key xs)
    known = held.shown place near ∙ ap (placed_at keys xs) at ∙ placed_key keys xs (key x) there

    more : (m : ℕ) → BitAdded h.shown place m → (n : ℕ) → n < length keys → is_set m n ≡ placed_at keys (xs ++ x ∷ []) n
    more m b n l = b n ∙ rw (held.shown n l, at) (sym (placed_more keys xs x n))

    -- the head has it
    pub held_twice : is_set h.shown place ≡ true
        → NamesHeld keys (xs ++ x ∷ []) (record { missing = h.missing; twice = true; shown = h.shown })
    held_twice e =
        record {
          missing = found;
          twice = λ z. rw (repeats_more xs x, ← known, e, or-true);
          shown = more h.shown (bit_there h.shown place e);
        }

    -- it is new to the head
    pub held_new : {m : ℕ} → is_set h.shown place ≡ false → m ≡ set_bit h.shown place
        → NamesHeld keys (xs ++ x ∷ []) (record { missing = h.missing; twice = h.twice; shown = m })
    held_new {m} e set =
        record {
          missing = found;
          twice = λ z. rw (repeats_more xs x, ← known, e, or-false) (held.twice z);
          shown = more m (rw set (bit_set h.shown place));
        }
