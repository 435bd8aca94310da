-- Reading the pieces of a head as names: those passed are held, beside the keys of the body.
use mathlib.Core.Path.{◌≡◌, refl, sym, ap, ◌∙◌}
use mathlib.Core.Logic.{inl, inr}
use mathlib.Core.Bool.{Bool, true, false, ◌&&◌}
use mathlib.Core.List.{List, [], ◌∷◌, ◌++◌}
use mathlib.Core.Option.{none, some}
use Prim.Native.Nat.{ℕ, ◌-◌}
use lib.Dec.{eqb}
use lib.ListN.{length, take, drop}
use lib.Pointwise.{pointwise}
use Rattle.std.specs.Prelude.{Option, Some, None, MatchOption}
use Rattle.std.specs.List.{position}
use Rattle.std.specs.declared.slice.Split.{Split as Pieces}
use Rattle.text.specs.Lines.{before, parts, same_bytes}
use Rattle.text.specs.Names.{bytes}
use Rattle.text.proofs.Cuts.{Cut}
use Rattle.text.proofs.Parts.{to_end}
use Rattle.rules.specs.Rule.{Name}
use Rattle.rules.specs.Text.{comma, opening, upper, lower, onto, behind, series, name_of, head_names}
use Rattle.rule_text.specs.Keys.{key, name_value}
use Rattle.rule_text.proofs.Keys.{value_none, value_some}
use Rattle.rule_text.proofs.ArgsRead.{bracket, gap}
use Rattle.rule_text.proofs.Series.{SeriesRead, series_none, series_broken, series_more, series_all}
use Rattle.rule_body.specs.Head.{NamesHeld, NameBehind, NamesRead, Headless, HeadRead}
use Rattle.rule_body.specs.declared.head.Head.{Head}
use Rattle.rule_body.proofs.NamesHeld.{held_none}

-- ---- a field and its value

module _ (letters : ℕ) (f : List ℕ) where
  pub name_none : name_value letters f ≡ None → name_of letters f ≡ none
  unfolding name_of
  name_none e = rw (value_none letters f e)

  pub name_some : (k : ℕ) → name_value letters f ≡ Some k → (name_of letters f ≡ some f) × (k ≡ key f)
  unfolding name_of
  name_some k e = let w = value_some letters f k e in (rw w.0, w.1)

-- ---- an empty head

-- the head of no names yet
abbrev pub no_names : Head
no_names = record { missing = false; twice = false; shown = 0 }

same_is : (l m : List ℕ) → pointwise eqb l m ≡ same_bytes l m
unfolding same_bytes
same_is [] [] = refl
same_is [] (c ∷ m) = refl
same_is (b ∷ l) [] = refl
same_is (b ∷ l) (c ∷ m) = ap (λ (t : Bool). eqb b c && t) (same_is l m)

-- a bracket alone
pub names_empty : {s keys : List ℕ} → pointwise eqb s bracket ≡ true → NamesRead s keys no_names
unfolding head_names bytes
names_empty {s} {keys} e = record { names = []; parses = rw (sym (same_is s bracket) ∙ e); held = held_none keys }

-- ---- the pieces passed

-- the pieces before those that are left were read as names, which h holds
pub record NamesPassed {F : Type 0} (s keys : List ℕ) (h : Head) (now : List ℕ) (it : Pieces ℕ F) : Type 0 where
  pub values : List Name
  pub whole : head_names s ≡ series bracket gap (name_of lower) (parts comma s)
  pub passed : SeriesRead comma bracket gap (name_of lower) s now values it
  pub held : NamesHeld keys values h

module _ {F : Type 0} {s keys : List ℕ} where
  pub none_passed : {it : Pieces ℕ F} → pointwise eqb s bracket ≡ false → it.done ≡ false → it.rest.now ≡ s
      → NamesPassed s keys no_names bracket it
  unfolding head_names bytes
  none_passed {it} e d z =
      record {
        values = [];
        whole = rw (sym (same_is s bracket) ∙ e);
        passed = series_none comma bracket gap (name_of lower) s it d z;
        held = held_none keys;
      }

  module _ {h : Head} {now f : List ℕ} {it then : Pieces ℕ F} (x : NamesPassed s keys h now it) (here : Cut comma it f then) where
    broken : onto (name_of lower) (behind now f) ≡ none → head_names s ≡ none
    broken e = x.whole ∙ series_broken comma bracket gap (name_of lower) s x.passed here e

    pub next_unled : behind now f ≡ none → head_names s ≡ none
    unfolding onto
    next_unled e = broken (rw e)

    module _ {g : List ℕ} (led : behind now f ≡ some g) where
      said : onto (name_of lower) (behind now f) ≡ name_of lower g
      unfolding onto
      said = rw led

      pub next_unnamed : name_value lower g ≡ None → head_names s ≡ none
      next_unnamed e = broken (said ∙ name_none lower g e)

      pub next_named : (k : ℕ) {place : Option ℕ} {r : Head} → name_value lower g ≡ Some k → place ≡ position (λ n. eqb n k) keys
          → NameBehind h place r → NamesPassed s keys r gap then
      next_named k e at more =
          let w = name_some lower g k e in
          record {
            values = x.values ++ g ∷ [];
            whole = x.whole;
            passed = series_more comma bracket gap (name_of lower) s x.passed here g (said ∙ w.0);
            held = more keys x.values g (at ∙ ap (λ (m : ℕ). position (λ n. eqb n m) keys) w.1) x.held;
          }

  pub all_named : {h : Head} {now : List ℕ} {it : Pieces ℕ F} → NamesPassed s keys h now it → it.done ≡ true → NamesRead s keys h
  all_named x e =
      record { names = x.values; parses = x.whole ∙ series_all comma bracket gap (name_of lower) s x.passed e; held = x.held }

-- ---- the head: its name up to the first bracket

module _ (s : List ℕ) {n : ℕ} (first : n ≡ before opening s) where
  pub head_unnamed : name_value upper (take n s) ≡ None → Headless s
  head_unnamed e = inl (rw first at (name_none upper (take n s) e))

  pub head_named : (k : ℕ) → name_value upper (take n s) ≡ Some k → (keys : List ℕ) (r : Option Head)
      → MatchOption r (head_names (take (length s - n) (drop n s)) ≡ none) (NamesRead (take (length s - n) (drop n s)) keys)
      → MatchOption r (Headless s) (HeadRead s keys)
  head_named k e keys None z = inr (rw (to_end n s, first) at z)
  head_named k e keys (Some h) z =
      record { name = take (before opening s) s; named = rw first at (name_some upper (take n s) k e).0; shows = rw (to_end n s, first) at z }
