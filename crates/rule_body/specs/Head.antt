-- What reading the head of a rule gives, beside the keys of the body's names.
use Rattle.std.specs.Prelude.{◌≡◌, ◌⊎◌, Bool, false, not, ◌||◌, Option, List, [], ◌∷◌, ◌++◌, map, ℕ, ◌<◌, eqb, length, take, drop, position}
use Rattle.std.proofs.Math.Option.{none, some}
use Rattle.theory.specs.Executable.Test.{all, any}
use Rattle.words.specs.Bits.{is_set}
use Rattle.text.specs.Lines.{before}
use Rattle.rules.specs.Rule.{Name}
use Rattle.rules.specs.Text.{opening, upper, name_of, head_names}
use Rattle.rule_text.specs.Keys.{key}
use Rattle.numbering.specs.Names.{is_key}
use Rattle.rule_body.specs.declared.head.Head.{Head}

-- ---- places

-- one of the names has this place among the keys
unfoldable pub placed_at : List ℕ → List Name → ℕ → Bool
unfolding any before
placed_at keys xs n = any (λ x. eqb (before (key x) keys) n) xs

-- one of these stands twice
unfoldable pub repeats_key : List ℕ → Bool
unfolding is_key
repeats_key [] = false
repeats_key (k ∷ l) = is_key k l || repeats_key l

-- the value holds these names of a head: whether the body lacks one, and if not whether one stands twice; and which of the body's
-- names they are
pub record NamesHeld (keys : List ℕ) (xs : List Name) (h : Head) : Type 0 where
  pub missing : h.missing ≡ not (all (λ x. is_key (key x) keys) xs)
  pub twice : h.missing ≡ false → h.twice ≡ repeats_key (map key xs)
  pub shown : (n : ℕ) → n < length keys → is_set h.shown n ≡ placed_at keys xs n

-- one name more, which has this place
abbrev pub NameBehind : Head → Option ℕ → Head → Type 0
NameBehind h place r =
    (keys : List ℕ) (xs : List Name) (x : Name) → place ≡ position (λ k. eqb k (key x)) keys → NamesHeld keys xs h
    → NamesHeld keys (xs ++ x ∷ []) r

-- ---- the head

pub record NamesRead (s keys : List ℕ) (h : Head) : Type 0 where
  pub names : List Name
  pub parses : head_names s ≡ some names
  pub held : NamesHeld keys names h

-- up to the first bracket no name stands, or from there on no names
abbrev pub Headless : List ℕ → Type 0
Headless piece =
    (name_of upper (take (before opening piece) piece) ≡ none) ⊎ (head_names (drop (before opening piece) piece) ≡ none)

pub record HeadRead (piece keys : List ℕ) (h : Head) : Type 0 where
  pub name : Name
  pub named : name_of upper (take (before opening piece) piece) ≡ some name
  pub shows : NamesRead (drop (before opening piece) piece) keys h
