-- Covering of a line where it stands in its query: "hidden, and in no second line" in place of "hidden after showing".
use mathlib.Core.Path.{◌≡◌, sym, ap, ◌∙◌, subst}
use mathlib.Core.Logic.{◌↔◌, ⊎_elim}
use Prim.Native.Nat.{ℕ, ◌<◌}
use lib.ListN.{length, length-map}
use Rattle.theory.specs.Query.{Term, constant, shown, hidden, over, Line, Query, ◌∈◌, NoClash}
use Rattle.theory.specs.Show.{Shared}
use Rattle.theory.specs.Cover.{at, IsHidden, Covers}
use Rattle.theory.specs.Executable.Show.{show_term}
use Rattle.theory.proofs.Tuples.{get_d_map, get_d_mem}
use Rattle.theory.proofs.Cover.{equal_terms}
use Rattle.theory.proofs.Show.{show_one_to_one}
use Rattle.theory.proofs.Executable.Show.{show_shows, show_unshared}

-- a hidden variable that stands in no two lines of R
abbrev pub Unshared : Query → Term → Type 0
Unshared R (constant c) = ⊥
Unshared R (shown n) = ⊥
Unshared R (hidden n) = Shared R n → ⊥

-- the three rules at two columns, where the view has v and v' and the line a and a'
pub record RulesIn (R : Query) (v v' a a' : Term) : Type 0 where
  pub constants : (c : ℕ) → v ≡ constant c → a ≡ constant c
  pub equals : v ≡ v' → a ≡ a'
  pub hides : IsHidden v → Unshared R a
  pub only : IsHidden v → a ≡ a' → v ≡ v'

pub record CoversIn (R : Query) (v A : Line) : Type 0 where
  pub table : v.table ≡ A.table
  pub width : length v.columns ≡ length A.columns
  pub rules : (p q : ℕ) → p < length v.columns → q < length v.columns → RulesIn R (at v p) (at v q) (at A p) (at A q)

-- ---- the two forms are one

show_constants : (R : Query) (t : Term) (c : ℕ) → (show_term R t ≡ constant c) ↔ (t ≡ constant c)
unfolding show_term
show_constants R (constant d) c = (λ e. e, λ e. e)
show_constants R (shown n) c = (λ e. e, λ e. e)
show_constants R (hidden n) c = (λ e. ⊎_elim (λ r. cc) (λ r. cc) (show_shows R (hidden n)), λ e. cc)

show_hides : (R : Query) (t : Term) → IsHidden (show_term R t) ↔ Unshared R t
unfolding show_term
show_hides R (constant d) = (λ h. h, λ h. h)
show_hides R (shown n) = (λ h. h, λ h. h)
show_hides R (hidden n) = (
  ⊎_elim (λ r h. absurd (subst IsHidden r.1 h)) (λ r h. r.0) (show_shows R (hidden n)),
  λ u. subst IsHidden (sym (show_unshared R n u)) tt,
)

module _ (R : Query) (clear : NoClash R) (v A : Line) (A_in : A ∈ R) where
  shown_at : (p : ℕ) → p < length A.columns → at (over (show_term R) A) p ≡ show_term R (at A p)
  shown_at p l = get_d_map (show_term R) A.columns p (constant 0) (constant 0) l

  same_term_lem : (p q : ℕ) → p < length A.columns → q < length A.columns
      → (at (over (show_term R) A) p ≡ at (over (show_term R) A) q) ↔ (at A p ≡ at A q)
  same_term_lem p q l m = (
    (λ e. show_one_to_one R clear (at A p) (at A q) A A A_in A_in (get_d_mem A.columns p (constant 0) l)
        (get_d_mem A.columns q (constant 0) m) (sym (shown_at p l) ∙ e ∙ shown_at q m)),
    λ e. shown_at p l ∙ ap (show_term R) e ∙ sym (shown_at q m),
  )

  shown_width : length (over (show_term R) A).columns ≡ length A.columns
  shown_width = length-map A.columns (show_term R)

  covers_inside : Covers v (over (show_term R) A) → CoversIn R v A
  covers_inside c =
      record {
        table = c.table;
        width = c.width ∙ shown_width;
        rules = λ p q l m.
            let r = c.rules p q l m in
            record {
              constants = λ d e. (show_constants R (at A p) d).0 (sym (shown_at p (below l)) ∙ r.constants d e);
              equals = λ e. (same_term_lem p q (below l) (below m)).0 (equal_terms _ _ _ _ r (c.rules q p m l) e);
              hides = λ h. (show_hides R (at A p)).0 (subst IsHidden (shown_at p (below l)) (r.hides h));
              only = λ h e. r.only h ((same_term_lem p q (below l) (below m)).1 e);
            };
      }
    where
      below : {p : ℕ} → p < length v.columns → p < length A.columns
      below {p} l = subst (λ (n : ℕ). p < n) (c.width ∙ shown_width) l

  inside_covers : CoversIn R v A → Covers v (over (show_term R) A)
  inside_covers c =
      record {
        table = c.table;
        width = c.width ∙ sym shown_width;
        rules = λ p q l m.
            let r = c.rules p q l m in
            record {
              constants = λ d e. shown_at p (below l) ∙ (show_constants R (at A p) d).1 (r.constants d e);
              equals = λ x e. (same_term_lem p q (below l) (below m)).1 (r.equals e);
              hides = λ h. subst IsHidden (sym (shown_at p (below l))) ((show_hides R (at A p)).1 (r.hides h));
              only = λ h e. r.only h ((same_term_lem p q (below l) (below m)).0 e);
            };
      }
    where
      below : {p : ℕ} → p < length v.columns → p < length A.columns
      below {p} l = subst (λ (n : ℕ). p < n) c.width l

  pub covers_shown : Covers v (over (show_term R) A) ↔ CoversIn R v A
  covers_shown = (covers_inside, inside_covers)
