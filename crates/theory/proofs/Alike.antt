-- Lines that differ in the numbers of their variables alone. Covering does not tell them apart, and labels do not.
use mathlib.Core.Path.{◌≡◌, refl, sym, ap₂, ◌∙◌}
use mathlib.Core.Logic.Iff
use mathlib.Core.Logic.{◌↔◌}
use mathlib.Core.Bool.{Bool, cond}
use mathlib.Core.List.{List, [], ◌∷◌}
use Prim.Native.Nat.{ℕ, ◌+◌, ◌*◌, ◌^◌, ◌<◌}
use native.Mathlib.Omega.{arith}
use lib.ListN.{length}
use Rattle.words.specs.Bits.{half_bits}
use Rattle.theory.specs.Query.{constant, Line}
use Rattle.theory.specs.Cover.{at, IsHidden, Covers}
use Rattle.theory.specs.Executable.Cover.{covers}
use Rattle.words.specs.TestBits.{test_bits}
use Rattle.theory.specs.Executable.Label.{view_bits, label}
use Rattle.theory.proofs.Executable.Test.{same_test}
use Rattle.theory.proofs.Executable.Cover.{covers_iff}

-- the same table and width, the same constants, hidden variables at the same columns, equal terms at the same columns
pub record Alike (A B : Line) : Type 0 where
  pub table : A.table ≡ B.table
  pub width : length A.columns ≡ length B.columns
  pub constants : (p c : ℕ) → p < length A.columns → (at A p ≡ constant c) ↔ (at B p ≡ constant c)
  pub hides : (p : ℕ) → p < length A.columns → IsHidden (at A p) ↔ IsHidden (at B p)
  pub equals : (p q : ℕ) → p < length A.columns → q < length A.columns → (at A p ≡ at A q) ↔ (at B p ≡ at B q)

pub alike_symm : {A B : Line} → Alike A B → Alike B A
alike_symm {A} {B} a =
    record {
      table = sym a.table;
      width = sym a.width;
      constants = λ p c l. Iff.symm (a.constants p c (below l));
      hides = λ p l. Iff.symm (a.hides p (below l));
      equals = λ p q l k. Iff.symm (a.equals p q (below l) (below k));
    }
  where
    below : {p : ℕ} → p < length B.columns → p < length A.columns
    below l = omega arith

pub alike_covers : {v A B : Line} → Alike A B → Covers v A → Covers v B
alike_covers {v} {A} {B} a c =
    record {
      table = c.table ∙ a.table;
      width = c.width ∙ a.width;
      rules = λ p q l k.
          let r = c.rules p q l k in
          record {
            constants = λ d e. (a.constants p d (below l)).0 (r.constants d e);
            equals = λ x e. (a.equals p q (below l) (below k)).0 (r.equals x e);
            hides = λ x. (a.hides p (below l)).0 (r.hides x);
            only = λ x e. r.only x ((a.equals p q (below l) (below k)).1 e);
          };
    }
  where
    below : {p : ℕ} → p < length v.columns → p < length A.columns
    below l = omega arith

alike_test : (v : Line) {A B : Line} → Alike A B → covers v A ≡ covers v B
alike_test v {A} {B} a =
    same_test (covers v A) (covers v B) (λ h. (covers_iff v B).1 (alike_covers a ((covers_iff v A).0 h)))
    (λ h. (covers_iff v A).1 (alike_covers (alike_symm a) ((covers_iff v B).0 h)))

alike_views : (vs : List Line) {A B : Line} → Alike A B → view_bits vs A ≡ view_bits vs B
unfolding test_bits
alike_views [] a = refl
alike_views (v ∷ vs) a = ap₂ (λ (b : Bool) (w : ℕ). cond b 1 0 + 2 * w) (alike_test v a) (alike_views vs a)

pub alike_label : (vs : List Line) {A B : Line} → Alike A B → label vs A ≡ label vs B
unfolding label
alike_label vs a = ap₂ (λ (t w : ℕ). t + 2 ^ half_bits * w) a.table (alike_views vs a)
