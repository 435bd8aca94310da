-- Reading the fields of a line from the left, as `split` gives them: what is known of those passed, and what is left. One argument for
-- the terms of a line and the views of a partition.
use mathlib.Core.Path.{◌≡◌, refl, sym, ◌∙◌}
use mathlib.Core.Bool.{Bool, true, false, true≢false, not, and-true, and-false}
use mathlib.Core.List.{List, [], ◌∷◌, ◌++◌, append-nil, append_assoc}
use mathlib.Core.Option.{Option, none, some}
use Prim.Native.Nat.{ℕ}
use borrow.Author.Tests.{not-true, not-false}
use Rattle.std.specs.declared.slice.Split.{Split as Pieces}
use Rattle.theory.specs.Executable.Test.{all}
use Rattle.theory.proofs.Executable.Test.{all_more}
use Rattle.text.specs.Lines.{space, fields}
use Rattle.text.proofs.Cuts.{left, Cut}
use Rattle.model.specs.Fields.{both, every, mapped}

-- ---- lists of which each element was read

pub append_none : {X : Type 0} (o : Option (List X)) → o ≡ mapped (λ l. [] ++ l) o
unfolding mapped
append_none none = refl
append_none (some l) = refl

pub none_next : {X : Type 0} (us : List X) (f : Option X) (o : Option (List X)) → f ≡ none → mapped (λ l. us ++ l) (both ◌∷◌ f o) ≡ none
unfolding mapped both
none_next us f o e = rw e

pub some_next : {X : Type 0} (us : List X) (u : X) (f : Option X) (o : Option (List X)) → f ≡ some u
    → mapped (λ l. us ++ l) (both ◌∷◌ f o) ≡ mapped (λ l. us ++ u ∷ [] ++ l) o
unfolding mapped both
some_next us u f none e = rw e
some_next us u f (some l) e = rw (e, append_assoc us (u ∷ []) l)

-- ---- the fields passed

-- what a field says, the test that is past its limit where it fails, and the value that holds what fields say
module _ {F X H : Type 0} (read : List ℕ → Option X) (test : X → Bool) (value : List X → H) where
  -- the fields before those that are left were read: h holds them where none is past its limit
  pub record FieldsRead (s : List ℕ) (h : H) (past : Bool) (it : Pieces ℕ F) : Type 0 where
    pub values : List X
    pub ahead : every read (fields s) ≡ mapped (λ l. values ++ l) (every read (left space it))
    pub limits : past ≡ not (all test values)
    pub held : past ≡ false → h ≡ value values

  pub read_none : (s : List ℕ) (h : H) (it : Pieces ℕ F) → h ≡ value [] → it.done ≡ false → it.rest.now ≡ s → FieldsRead s h false it
  unfolding all fields
  read_none s h it e d z =
      record {
        values = [];
        ahead = rw (d, z) (append_none (every read (fields s)));
        limits = refl;
        held = λ y. e;
      }

  -- ---- the next field

  module _ {s f : List ℕ} {h : H} {past : Bool} {it then : Pieces ℕ F} (passed : FieldsRead s h past it) (here : Cut space it f then) where
    others : Option (List X)
    others = every read (left space then)

    ahead : every read (fields s) ≡ mapped (λ l. passed.values ++ l) (both ◌∷◌ (read f) others)
    unfolding every others
    ahead = passed.ahead ∙ rw here.next

    more : (u : X) → read f ≡ some u
        → every read (fields s) ≡ mapped (λ l. passed.values ++ u ∷ [] ++ l) (every read (left space then))
    unfolding others
    more u e = ahead ∙ some_next passed.values u (read f) others e

    pub next_none : read f ≡ none → every read (fields s) ≡ none
    next_none e = ahead ∙ none_next passed.values (read f) others e

    pub next_past : (u : X) → read f ≡ some u → test u ≡ false → FieldsRead s h true then
    next_past u e t =
        record {
          values = passed.values ++ u ∷ [];
          ahead = more u e;
          limits = rw (all_more, t, and-false);
          held = λ z. absurd (true≢false z);
        }

    pub next_held : (u : X) (g : H) → read f ≡ some u → test u ≡ true
        → ((us : List X) → h ≡ value us → g ≡ value (us ++ u ∷ [])) → FieldsRead s g past then
    next_held u g e t b =
        record {
          values = passed.values ++ u ∷ [];
          ahead = more u e;
          limits = rw (all_more, t, and-true) passed.limits;
          held = λ z. b passed.values (passed.held z);
        }

  -- ---- all fields

  module _ {s : List ℕ} {h : H} {past : Bool} {it : Pieces ℕ F} (r : FieldsRead s h past it) where
    pub all_read : it.done ≡ true → every read (fields s) ≡ some r.values
    unfolding every mapped
    all_read e = r.ahead ∙ rw (e, append-nil)

    pub some_past : past ≡ true → all test r.values ≡ false
    some_past e = not-true (all test r.values) (sym r.limits ∙ e)

    pub none_past : past ≡ false → all test r.values ≡ true
    none_past e = not-false (all test r.values) (sym r.limits ∙ e)
