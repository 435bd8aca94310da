-- The labels are fixed: two reduced forms of one query are one another renamed, so that whichever lines are taken out the
-- lines left have the same labels.
use mathlib.Core.Path.{◌≡◌, refl, sym, ap, ap₂, ◌∙◌, subst, subst₂}
use mathlib.Core.Logic.Iff
use mathlib.Core.Logic.{◌↔◌, ◌≢◌, ⊎_elim}
use mathlib.Core.Option.{some, some-injective}
use mathlib.Core.List.Memᴰ
use mathlib.Core.List.Permᴰ
use mathlib.Core.List.{List, [], ◌∷◌, map, map-map, Permᴰ}
use Prim.Native.Nat.{ℕ, ◌<◌}
use native.Mathlib.Omega.{arith}
use lib.ListN.{length, length-map, get_elem?}
use Rattle.theory.specs.Query.{Term, constant, shown, hidden, over, Line, Query, ◌∈◌, NoClash}
use Rattle.theory.specs.Reduce.{image, Sends, Reduced, ReducesTo}
use Rattle.theory.specs.Show.{Shared}
use Rattle.theory.specs.Cover.{at, IsHidden}
use Rattle.theory.specs.Executable.Show.{show_term, show}
use Rattle.theory.specs.Executable.Label.{label, labels}
use Rattle.theory.proofs.Lists.{place, at_place, without_other, map_no_repeats, same_elements}
use Rattle.theory.proofs.Tuples.{tuple_path, map_same, get_d_map, get_d_mem, over_over, over_same}
use Rattle.theory.proofs.Terms.{from_hidden}
use Rattle.theory.proofs.Reduce.{image_twice, sends_self, sends_twice, reduced_reduced, reduced_subset, reduced_clear, reduced_map}
use Rattle.theory.proofs.Reduce.{reduced_place, reduced_no_repeats}
use Rattle.theory.proofs.Endomorphism.{Stands, hits, hidden_stay, one_to_one}
use Rattle.theory.proofs.Executable.Reduce.{reduce_reduces}
use Rattle.theory.proofs.Executable.Show.{show_shared, show_unshared, show_shows}
use Rattle.theory.proofs.Show.{show_one_to_one}
use Rattle.theory.proofs.Alike.{Alike, alike_label}

-- ---- functions that are one to one on a list

module _ {X Y : Type 0} (f : X → Y) where
  map_apart : (xs ys : List X) → ((x y : X) → x ∈ xs → y ∈ ys → f x ≡ f y → x ≡ y) → map f xs ≡ map f ys → xs ≡ ys
  map_apart [] [] one e = refl
  map_apart [] (y ∷ ys) one e = cc
  map_apart (x ∷ xs) [] one e = cc
  map_apart (x ∷ xs) (y ∷ ys) one e =
      ap₂ ◌∷◌ (one x y (Memᴰ.head refl) (Memᴰ.head refl) (cc))
      (map_apart xs ys (λ z w i j. one z w (Memᴰ.tail i) (Memᴰ.tail j)) (cc))

-- ---- shared variables of a reduced query

-- the variable stands in two lines that differ
record InTwo (R : Query) (n : ℕ) : Type 0 where
  A : Line
  B : Line
  differ : A ≢ B
  A_of : A ∈ R
  B_of : B ∈ R
  in_A : hidden n ∈ A.columns
  in_B : hidden n ∈ B.columns

-- Of two equal lines one could go, so what is shared is shared by lines that differ.
shared_in_two : (R : Query) (n : ℕ) → Reduced R → Shared R n → InTwo R n
shared_in_two R n reduced s =
    record {
      A = s.A;
      B = s.B;
      differ = λ e. reduced_place reduced s.i s.A s.A_at
          (without_other s.i s.j R (λ f. s.apart (sym f)) (s.B_at ∙ ap some (sym e)));
      A_of = at_place R s.i s.A_at;
      B_of = at_place R s.j s.B_at;
      in_A = s.in_A;
      in_B = s.in_B;
    }

in_two_shared : (R : Query) (n : ℕ) → InTwo R n → Shared R n
in_two_shared R n s =
    let p = place s.A_of in
    let q = place s.B_of in
    record {
      i = p.0;
      j = q.0;
      apart = λ e. s.differ (some-injective s.A s.B (sym p.1 ∙ ap (get_elem? R) e ∙ q.1));
      A = s.A;
      B = s.B;
      A_at = p.1;
      B_at = q.1;
      in_A = s.in_A;
      in_B = s.in_B;
    }

-- ---- the kind of a term

-- the same constant, or both hidden, or both shown
abbrev SameKind : Term → Term → Type 0
SameKind t u = ((c : ℕ) → (t ≡ constant c) ↔ (u ≡ constant c)) × (IsHidden t ↔ IsHidden u)

both_constant : (c : ℕ) → SameKind (constant c) (constant c)
both_constant c = (λ d. Iff.rfl, Iff.rfl)

both_shown : (n k : ℕ) → SameKind (shown n) (shown k)
both_shown n k = (λ c. (λ e. cc, λ e. cc), Iff.rfl)

both_hidden : (n k : ℕ) → SameKind (hidden n) (hidden k)
both_hidden n k = (λ c. (λ e. cc, λ e. cc), Iff.rfl)

-- ---- two reduced queries with maps both ways

twice_over : (k m : ℕ → Term) (A : Line) → over (image k) (over (image m) A) ≡ over (image (λ n. image k (m n))) A
twice_over k m A = over_over (image k) (image m) A ∙ over_same _ _ A (λ t i. image_twice k m t)

module _ {R₁ R₂ : Query} (reduced₁ : Reduced R₁) (reduced₂ : Reduced R₂) (a b : ℕ → Term)
    (to : Sends a R₁ R₂) (from : Sends b R₂ R₁) where
  -- a hidden variable goes to a hidden variable
  goes : (n : ℕ) → Stands n R₁ → (k : ℕ) × (a n ≡ hidden k)
  goes n s =
      let r = hidden_stay reduced₁ (sends_twice a b to from) n s in
      from_hidden b (a n) r.0 r.1

  variables_apart : (n k : ℕ) → Stands n R₁ → Stands k R₁ → a n ≡ a k → n ≡ k
  variables_apart n k s t e = one_to_one reduced₁ (sends_twice a b to from) n k s t (ap (image b) e)

  terms_apart : (t u : Term) (A B : Line) → A ∈ R₁ → B ∈ R₁ → t ∈ A.columns → u ∈ B.columns → image a t ≡ image a u → t ≡ u
  terms_apart (constant c) (constant d) A B i j x y e = e
  terms_apart (constant c) (shown n) A B i j x y e = e
  terms_apart (constant c) (hidden n) A B i j x y e = let r = goes n (B, j, y) in cc
  terms_apart (shown n) (constant d) A B i j x y e = e
  terms_apart (shown n) (shown k) A B i j x y e = e
  terms_apart (shown n) (hidden k) A B i j x y e = let r = goes k (B, j, y) in cc
  terms_apart (hidden n) (constant d) A B i j x y e = let r = goes n (A, i, x) in cc
  terms_apart (hidden n) (shown k) A B i j x y e = let r = goes n (A, i, x) in cc
  terms_apart (hidden n) (hidden k) A B i j x y e = ap hidden (variables_apart n k (A, i, x) (B, j, y) e)

  lines_apart : (A B : Line) → A ∈ R₁ → B ∈ R₁ → over (image a) A ≡ over (image a) B → A ≡ B
  lines_apart A B i j e =
      tuple_path (ap (λ (C : Line). C.table) e)
      (map_apart (image a) A.columns B.columns (λ t u. terms_apart t u A B i j) (ap (λ (C : Line). C.columns) e))

  -- every line comes from a line
  comes : (C : Line) → C ∈ R₂ → (A : Line) × (A ∈ R₁) × (over (image a) A ≡ C)
  comes C k =
      let r = hits reduced₂ (sends_twice b a from to) C k in
      (over (image b) r.0, from r.0 r.1, twice_over a b r.0 ∙ r.2)

  lines_permuted : Permᴰ (map (over (image a)) R₁) R₂
  lines_permuted =
      same_elements (map (over (image a)) R₁) R₂
      (map_no_repeats (over (image a)) R₁ lines_apart (reduced_no_repeats reduced₁)) (reduced_no_repeats reduced₂)
      (λ C k. let r = Memᴰ.of_map (over (image a)) R₁ k in Memᴰ.cast (sym r.2) (to r.0 r.1))
      (λ C k. let r = comes C k in Memᴰ.cast (sym r.2) (Memᴰ.map (over (image a)) r.1))

  -- a variable is shared exactly when its image is
  module _ (n k : ℕ) (stands : Stands n R₁) (Goes_to : a n ≡ hidden k) where
    in_image : (A : Line) → hidden n ∈ A.columns → hidden k ∈ (over (image a) A).columns
    in_image A i = Memᴰ.cast (sym Goes_to) (Memᴰ.map (image a) i)

    of_image : (A : Line) → A ∈ R₁ → hidden k ∈ (over (image a) A).columns → hidden n ∈ A.columns
    of_image A i j =
        let r = Memᴰ.of_map (image a) A.columns j in
        Memᴰ.cast (terms_apart (hidden n) r.0 stands.0 A stands.1 i stands.2 r.1 (Goes_to ∙ sym r.2))
        r.1

    shared_to : Shared R₁ n → Shared R₂ k
    shared_to s =
        let t = shared_in_two R₁ n reduced₁ s in
        in_two_shared R₂ k
        (record {
          A = over (image a) t.A;
          B = over (image a) t.B;
          differ = λ e. t.differ (lines_apart t.A t.B t.A_of t.B_of e);
          A_of = to t.A t.A_of;
          B_of = to t.B t.B_of;
          in_A = in_image t.A t.in_A;
          in_B = in_image t.B t.in_B;
        })

    shared_from : Shared R₂ k → Shared R₁ n
    shared_from s =
        let t = shared_in_two R₂ k reduced₂ s in
        let A = comes t.A t.A_of in
        let B = comes t.B t.B_of in
        in_two_shared R₁ n
        (record {
          A = A.0;
          B = B.0;
          differ = λ e. t.differ (sym A.2 ∙ ap (over (image a)) e ∙ B.2);
          A_of = A.1;
          B_of = B.1;
          in_A = of_image A.0 A.1 (subst (λ (C : Line). hidden k ∈ C.columns) (sym A.2) t.in_A);
          in_B = of_image B.0 B.1 (subst (λ (C : Line). hidden k ∈ C.columns) (sym B.2) t.in_B);
        })

  -- ---- the lines shown

  kinds_shown : (t : Term) (A : Line) → A ∈ R₁ → t ∈ A.columns → SameKind (show_term R₁ t) (show_term R₂ (image a t))
  unfolding show_term
  kinds_shown (constant c) A i x = both_constant c
  kinds_shown (shown n) A i x = both_shown n n
  kinds_shown (hidden n) A i x =
      let (k, e) = goes n (A, i, x) in
      subst (λ (t : Term). SameKind (show_term R₁ (hidden n)) (show_term R₂ t)) (sym e)
      (⊎_elim
      (λ r. rw (r.1, show_shared R₂ k (shared_to n k (A, i, x) e r.0)) (both_shown n k))
      (λ r. rw (r.1, show_unshared R₂ k (λ s. r.0 (shared_from n k (A, i, x) e s))) (both_hidden n k))
      (show_shows R₁ (hidden n)))

  module _ (clear₁ : NoClash R₁) (clear₂ : NoClash R₂) where
    alike_shown : (A : Line) → A ∈ R₁ → Alike (over (show_term R₁) A) (over (show_term R₂) (over (image a) A))
    alike_shown A i =
        record {
          table = refl;
          width = length-map A.columns (show_term R₁) ∙ sym (length-map A.columns (image a))
              ∙ sym (length-map (map (image a) A.columns) (show_term R₂));
          constants = λ p c l. rw (first p (below l), second p (below l)) ((kind p (below l)).0 c);
          hides = λ p l. rw (first p (below l), second p (below l)) (kind p (below l)).1;
          equals = λ p q l k. rw (first p (below l), second p (below l), first q (below k), second q (below k)) (
            λ e. ap (λ (t : Term). show_term R₂ (image a t))
                (show_one_to_one R₁ clear₁ (at A p) (at A q) A A i i (term p (below l)) (term q (below k)) e),
            λ e. ap (show_term R₁) (terms_apart (at A p) (at A q) A A i i (term p (below l)) (term q (below k))
                (show_one_to_one R₂ clear₂ (image a (at A p)) (image a (at A q)) (over (image a) A) (over (image a) A)
                (to A i) (to A i) (Memᴰ.map (image a) (term p (below l))) (Memᴰ.map (image a) (term q (below k))) e)),
          );
        }
      where
        below : {p : ℕ} → p < length (map (show_term R₁) A.columns) → p < length A.columns
        below l = omega (arith, length-map A.columns (show_term R₁))

        term : (p : ℕ) → p < length A.columns → at A p ∈ A.columns
        term p l = get_d_mem A.columns p (constant 0) l

        first : (p : ℕ) → p < length A.columns → at (over (show_term R₁) A) p ≡ show_term R₁ (at A p)
        first p l = get_d_map (show_term R₁) A.columns p (constant 0) (constant 0) l

        second : (p : ℕ) → p < length A.columns
            → at (over (show_term R₂) (over (image a) A)) p ≡ show_term R₂ (image a (at A p))
        second p l =
            get_d_map (show_term R₂) (map (image a) A.columns) p (constant 0) (constant 0)
            (omega (arith, length-map A.columns (image a)))
            ∙ ap (show_term R₂) (get_d_map (image a) A.columns p (constant 0) (constant 0) l)

        kind : (p : ℕ) → p < length A.columns → SameKind (show_term R₁ (at A p)) (show_term R₂ (image a (at A p)))
        kind p l = kinds_shown (at A p) A i (term p l)

    forms_alike : {X : Type 0} (f : Line → X) → ((A B : Line) → Alike A B → f A ≡ f B)
        → Permᴰ (map f (show R₁)) (map f (show R₂))
    unfolding show
    forms_alike {X} f invariant =
        subst₂ Permᴰ
        (map-map f₂ (over (image a)) R₁ ∙ map_same _ _ R₁ (λ A i. sym (invariant _ _ (alike_shown A i)))
        ∙ sym (map-map f (over (show_term R₁)) R₁))
        (sym (map-map f (over (show_term R₂)) R₂)) (Permᴰ.map f₂ lines_permuted)
      where
        f₂ : Line → X
        f₂ C = f (over (show_term R₂) C)

-- ---- two queries, each sent into the other by some map

-- What does not tell lines apart that differ in the numbers of their variables alone is the same for reduced forms of both.
pub sent_forms_alike : {X : Type 0} (f : Line → X) → ((A B : Line) → Alike A B → f A ≡ f B) → {P Q R₁ R₂ : Query}
    → NoClash P → NoClash Q → (m k : ℕ → Term) → Sends m P Q → Sends k Q P → ReducesTo P R₁ → ReducesTo Q R₂
    → Permᴰ (map f (show R₁)) (map f (show R₂))
sent_forms_alike f invariant clear_P clear_Q m k to from r₁ r₂ =
    let (a, into₁) = reduced_map r₁ in
    let (b, into₂) = reduced_map r₂ in
    forms_alike (reduced_reduced r₁) (reduced_reduced r₂) _ _ (sends_twice m b (λ A i. to A (reduced_subset r₁ A i)) into₂)
    (sends_twice k a (λ A i. from A (reduced_subset r₂ A i)) into₁) (reduced_clear r₁ clear_P) (reduced_clear r₂ clear_Q)
    f invariant

-- ---- one query

pub reduced_forms_alike : {X : Type 0} (f : Line → X) → ((A B : Line) → Alike A B → f A ≡ f B) → {Q R₁ R₂ : Query}
    → NoClash Q → ReducesTo Q R₁ → ReducesTo Q R₂ → Permᴰ (map f (show R₁)) (map f (show R₂))
reduced_forms_alike f invariant {Q} clear = sent_forms_alike f invariant clear clear hidden hidden (sends_self Q) (sends_self Q)

pub labels_fixed : (vs : List Line) {Q R₁ R₂ : Query} → NoClash Q → ReducesTo Q R₁ → ReducesTo Q R₂
    → Permᴰ (map (label vs) (show R₁)) (map (label vs) (show R₂))
labels_fixed vs = reduced_forms_alike (label vs) (λ A B. alike_label vs)

-- whichever reduced form is taken, its labels are the definition's
pub labels_of_any_form : (vs : List Line) {Q R : Query} → NoClash Q → ReducesTo Q R → Permᴰ (labels vs Q) (map (label vs) (show R))
unfolding labels
labels_of_any_form vs {Q} clear r = labels_fixed vs clear (reduce_reduces Q) r
