-- Document 01, "Reducing": the lines left give the same answers, and none of them may go.
use mathlib.Core.Path.{◌≡◌, refl, sym, ◌∙◌}
use mathlib.Core.Logic.Iff
use mathlib.Core.Logic.{◌↔◌, ⊎_elim}
use mathlib.Core.Option.{some, some-injective}
use mathlib.Core.List.Memᴰ
use mathlib.Core.List.{List}
use Prim.Native.Nat.{ℕ}
use native.Mathlib.Decide.{ℕ_discrete}
use lib.ListN.{get_elem?}
use Rattle.theory.specs.Query.{Term, constant, shown, hidden, over, Line, Query, ◌∈◌, NoClash}
use Rattle.theory.specs.Archive.{Archive, AllFit, Answer, value}
use Rattle.theory.specs.Reduce.{image, Sends, without, MayGo, Reduced, ReducesTo, done, take_out}
use Rattle.theory.specs.Apart.{NoRepeats}
use Rattle.theory.proofs.Lists.{no_repeats, place_below, without_subset, without_cases, without_other}
use Rattle.theory.proofs.Tuples.{over_over, over_same, over_self}

-- ---- maps

pub image_self : (t : Term) → image hidden t ≡ t
image_self (constant c) = refl
image_self (shown n) = refl
image_self (hidden n) = refl

line_self : (A : Line) → over (image hidden) A ≡ A
line_self A = over_self (image hidden) A (λ t m. image_self t)

-- the map that leaves every variable as it is
pub sends_self : (Q : Query) → Sends hidden Q Q
sends_self Q A a = Memᴰ.cast (line_self A) a

pub image_twice : (k m : ℕ → Term) (t : Term) → image k (image m t) ≡ image (λ n. image k (m n)) t
image_twice k m (constant c) = refl
image_twice k m (shown n) = refl
image_twice k m (hidden n) = refl

-- one map after another is a map
pub sends_twice : (m k : ℕ → Term) {P Q R : Query} → Sends m P Q → Sends k Q R → Sends (λ n. image k (m n)) P R
sends_twice m k f g A a =
    Memᴰ.cast
    (sym (over_over (image k) (image m) A
    ∙ over_same (λ t. image k (image m t)) (image (λ n. image k (m n))) A (λ t i. image_twice k m t)))
    (g (over (image m) A) (f A a))

-- ---- answers

value_image : (m : ℕ → Term) (s h : ℕ → ℕ) (t : Term) → value s h (image m t) ≡ value s (λ n. value s h (m n)) t
value_image m s h (constant c) = refl
value_image m s h (shown n) = refl
value_image m s h (hidden n) = refl

-- Where a map sends Q to R, an answer of R is one of Q: a hidden variable takes the value of its image.
pub sent_answers : (m : ℕ → Term) {Q R : Query} → Sends m Q R → (D : Archive) (s : ℕ → ℕ) → Answer R D s → Answer Q D s
sent_answers m f D s r =
    let (h, g) = r in (
      λ n. value s h (m n),
      λ A a. Memᴰ.cast
          (sym (over_over (value s h) (image m) A
          ∙ over_same (λ t. value s h (image m t)) (value s (λ n. value s h (m n))) A (λ t i. value_image m s h t)))
          (g (over (image m) A) (f A a)),
    )

pub may_go_answers : (Q : Query) (i : ℕ) → MayGo Q i → (D : Archive) (s : ℕ → ℕ) → Answer Q D s ↔ Answer (without i Q) D s
may_go_answers Q i g D s =
    (sent_answers hidden (λ A a. sends_self Q A (without_subset i Q a)) D s, sent_answers g.1 g.2 D s)

-- reducing keeps the answers, on every archive
pub reduced_answers : {Q R : Query} → ReducesTo Q R → (D : Archive) (s : ℕ → ℕ) → Answer Q D s ↔ Answer R D s
reduced_answers (done r) D s = Iff.rfl
reduced_answers (take_out {Q = P} i g r) D s = Iff.trans (may_go_answers P i g D s) (reduced_answers r D s)

-- ---- the lines left

pub reduced_reduced : {Q R : Query} → ReducesTo Q R → Reduced R
reduced_reduced (done r) = r
reduced_reduced (take_out i g r) = reduced_reduced r

pub reduced_subset : {Q R : Query} → ReducesTo Q R → (A : Line) → A ∈ R → A ∈ Q
reduced_subset (done r) A a = a
reduced_subset (take_out {Q = P} i g r) A a = without_subset i P (reduced_subset r A a)

pub reduced_fits : {widths : List ℕ} {Q R : Query} → ReducesTo Q R → AllFit widths Q → AllFit widths R
reduced_fits r fits A a = fits A (reduced_subset r A a)

pub reduced_clear : {Q R : Query} → ReducesTo Q R → NoClash Q → NoClash R
reduced_clear r clear n A B i j = clear n A B (reduced_subset r A i) (reduced_subset r B j)

pub reduced_map : {Q R : Query} → ReducesTo Q R → (m : ℕ → Term) × Sends m Q R
reduced_map (done {Q = P} r) = (hidden, sends_self P)
reduced_map (take_out i g r) = let k = reduced_map r in (λ n. image k.0 (g.1 n), sends_twice g.1 k.0 g.2 k.1)

-- A line stands only once: a second could go, by the map that leaves every variable as it is.
pub reduced_place : {R : Query} → Reduced R → (i : ℕ) (A : Line) → get_elem? R i ≡ some A → A ∈ without i R → ⊥
reduced_place {R} red i A e a =
    red i (
      place_below R i e,
      hidden,
      λ B b. Memᴰ.cast (line_self B)
          (⊎_elim (λ f. Memᴰ.cast (some-injective B A (sym f ∙ e)) a) (λ k. k) (without_cases i R b)),
    )

pub reduced_no_repeats : {R : Query} → Reduced R → NoRepeats R
reduced_no_repeats {R} red = no_repeats R (λ i j A e f. go i j A e f (ℕ_discrete i j))
  where
    go : (i j : ℕ) (A : Line) → get_elem? R i ≡ some A → get_elem? R j ≡ some A → Dec (i ≡ j) → i ≡ j
    go i j A e f (yes p) = p
    go i j A e f (no n) = absurd (reduced_place red j A f (without_other j i R n e))
