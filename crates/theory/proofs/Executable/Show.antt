-- The test of being shared is being shared, and what a term becomes is what document 01 says.
use mathlib.Core.Path.{◌≡◌, refl, sym, ap, subst, ◌∙◌}
use mathlib.Core.Logic.{◌↔◌, ◌⊎◌, inl, inr, ⊎_elim, ◌≢◌}
use mathlib.Core.Bool.{Bool, true, false, cond, ◌&&◌}
use mathlib.Core.Option.{some, some-injective}
use mathlib.Core.List.Memᴰ
use mathlib.Core.List.{List, [], ◌∷◌}
use Prim.Native.Nat.{ℕ, zero, suc}
use native.Mathlib.Nat.{suc_inj, suc-ne-zero}
use lib.Dec.{T}
use lib.ListN.{get_elem?}
use mir.Facts.{and_yes, yes_and, or_yes}
use Rattle.theory.specs.Query.{Term, constant, shown, hidden, over, Line, Query, ◌∈◌, Fits}
use Rattle.theory.specs.Archive.{AllFit}
use Rattle.theory.specs.Show.{Shared, Shows, Shown}
use Rattle.theory.specs.Executable.Test.{any, same}
use Rattle.theory.specs.Executable.Show.{stands_in, shared, show_term, show}
use Rattle.theory.proofs.Lists.{none≢some, place, at_place, pointwise_of, pointwise_is_map}
use Rattle.theory.proofs.Tuples.{fits_over}
use Rattle.theory.proofs.Executable.Test.{or_iff, any_iff, same_iff}

-- the test of "t is one of the terms"
pub has_iff : (t : Term) (l : List Term) → T (any (same t) l) ↔ (t ∈ l)
has_iff t l = (
  λ h. let r = (any_iff (same t) l).0 h in Memᴰ.cast ((same_iff t r.0).0 r.2) r.1,
  λ m. (any_iff (same t) l).1 (t, m, (same_iff t t).1 refl),
)

pub stands_in_iff : (n : ℕ) (A : Line) → T (stands_in n A) ↔ (hidden n ∈ A.columns)
unfolding stands_in
stands_in_iff n A = has_iff (hidden n) A.columns

-- what is shared in the later lines is shared
later : {A : Line} {R : Query} {n : ℕ} → Shared R n → Shared (A ∷ R) n
later s =
    record {
      i = suc s.i;
      j = suc s.j;
      apart = λ e. s.apart (suc_inj e);
      A = s.A;
      B = s.B;
      A_at = s.A_at;
      B_at = s.B_at;
      in_A = s.in_A;
      in_B = s.in_B;
    }

shared_to : (R : Query) (n : ℕ) → T (shared R n) → Shared R n
unfolding shared
shared_to [] n h = absurd h
shared_to (A ∷ R) n h =
    ⊎_elim
    (λ k.
    let r = and_yes (stands_in n A) (any (stands_in n) R) k in
    let s = (any_iff (stands_in n) R).0 r.1 in
    record {
      i = zero;
      j = suc (place s.1).0;
      apart = λ e. suc-ne-zero _ (sym e);
      A = A;
      B = s.0;
      A_at = refl;
      B_at = (place s.1).1;
      in_A = (stands_in_iff n A).0 r.0;
      in_B = (stands_in_iff n s.0).0 s.2;
    })
    (λ k. later (shared_to R n k))
    (or_yes (stands_in n A && any (stands_in n) R) (shared R n) h)

-- the first line and a later one have the variable
first_shares : (A B : Line) (R : Query) (n j : ℕ) → get_elem? R j ≡ some B → hidden n ∈ A.columns → hidden n ∈ B.columns
    → T (shared (A ∷ R) n)
unfolding shared
first_shares A B R n j e k l =
    (or_iff (stands_in n A && any (stands_in n) R) (shared R n)).1
    (inl (yes_and (stands_in n A) (any (stands_in n) R) ((stands_in_iff n A).1 k)
    ((any_iff (stands_in n) R).1 (B, at_place R j e, (stands_in_iff n B).1 l))))

shared_from : (R : Query) (n i j : ℕ) (A B : Line) → i ≢ j → get_elem? R i ≡ some A → get_elem? R j ≡ some B
    → hidden n ∈ A.columns → hidden n ∈ B.columns → T (shared R n)
unfolding shared
shared_from [] n i j A B d e f k l = absurd (none≢some e)
shared_from (C ∷ R) n zero zero A B d e f k l = absurd (d refl)
shared_from (C ∷ R) n zero (suc j) A B d e f k l =
    first_shares C B R n j f (subst (λ (D : Line). hidden n ∈ D.columns) (sym (some-injective C A e)) k) l
shared_from (C ∷ R) n (suc i) zero A B d e f k l =
    first_shares C A R n i e (subst (λ (D : Line). hidden n ∈ D.columns) (sym (some-injective C B f)) l) k
shared_from (C ∷ R) n (suc i) (suc j) A B d e f k l =
    (or_iff (stands_in n C && any (stands_in n) R) (shared R n)).1
    (inr (shared_from R n i j A B (λ p. d (ap suc p)) e f k l))

pub shared_iff : (R : Query) (n : ℕ) → T (shared R n) ↔ Shared R n
shared_iff R n = (
  shared_to R n,
  λ s. shared_from R n s.i s.j s.A s.B s.apart s.A_at s.B_at s.in_A s.in_B,
)

-- what a hidden variable becomes by the test b of being shared
shows_by : {S : Type 0} (n : ℕ) (b : Bool) → T b ↔ S
    → (S × (cond b (shown n) (hidden n) ≡ shown n)) ⊎ ((S → ⊥) × (cond b (shown n) (hidden n) ≡ hidden n))
shows_by n true e = inl (e.0 tt, refl)
shows_by n false e = inr (e.1, refl)

pub show_shows : (R : Query) (t : Term) → Shows R t (show_term R t)
unfolding show_term
show_shows R (constant c) = refl
show_shows R (shown n) = refl
show_shows R (hidden n) = shows_by n (shared R n) (shared_iff R n)

pub show_shared : (R : Query) (n : ℕ) → Shared R n → show_term R (hidden n) ≡ shown n
show_shared R n s = ⊎_elim (λ r. r.1) (λ r. absurd (r.0 s)) (show_shows R (hidden n))

pub show_unshared : (R : Query) (n : ℕ) → (Shared R n → ⊥) → show_term R (hidden n) ≡ hidden n
show_unshared R n u = ⊎_elim (λ r. absurd (u r.0)) (λ r. r.1) (show_shows R (hidden n))

-- a shown term is the one that `show_term` gives
shows_only : (R : Query) (t u : Term) → Shows R t u → u ≡ show_term R t
unfolding show_term
shows_only R (constant c) u e = e
shows_only R (shown n) u e = e
shows_only R (hidden n) u s =
    ⊎_elim (λ r. r.1 ∙ sym (show_shared R n r.0)) (λ r. r.1 ∙ sym (show_unshared R n r.0)) s

-- `show R` is R with its shared variables shown
pub show_is_shown : (R : Query) → Shown R (show R)
unfolding show
show_is_shown R =
    pointwise_of (over (show_term R)) R (λ A m. (refl, pointwise_of (show_term R) A.columns (λ t i. show_shows R t)))

-- and nothing else is
pub shown_is_show : (R : Query) {S : Query} → Shown R S → S ≡ show R
unfolding show
shown_is_show R s =
    pointwise_is_map (over (show_term R))
    (λ A B h. λ i. record { table = h.0 i; columns = pointwise_is_map (show_term R) (shows_only R) h.1 i }) s

-- showing keeps tables and widths
pub shown_fits : {widths : List ℕ} {R S : Query} → Shown R S → AllFit widths R → AllFit widths S
unfolding show
shown_fits {widths} {R} shows fits A m =
    let (B, i, e) = Memᴰ.of_map (over (show_term R)) R (subst (λ (X : Query). A ∈ X) (shown_is_show R shows) m) in
    subst (Fits widths) e (fits_over (show_term R) B (fits B i))
