-- Two candidates are compatible exactly when they have one term in the first columns of each hidden variable that both lines have.
use mathlib.Core.Path.{◌≡◌, sym, ap, ◌∙◌}
use mathlib.Core.Logic.{◌↔◌, ⊎_elim}
use mathlib.Core.List.{List}
use Prim.Native.Nat.{ℕ, ◌<◌}
use native.Mathlib.Omega.{arith}
use lib.Bits.{bit_and}
use lib.ListN.{length}
use Rattle.theory.specs.Query.{hidden, Query, Line}
use Rattle.theory.specs.Cover.{at}
use Rattle.words.specs.Bits.{bit}
use Rattle.words.proofs.Masks.{bit_and_iff}
use Rattle.model.specs.Value.{term_value}
use Rattle.model.specs.Rows.{laid_term}
use Rattle.entering.specs.Agree.{line_at}
use Rattle.entering.specs.Worded.{hidden_word, HiddenAt, Given}
use Rattle.reduce.specs.PairNumbers.{line_of, target_of}
use Rattle.reduce.specs.Columns.{FirstColumn}
use Rattle.reduce.specs.Links.{HasVariable, Linked}
use Rattle.reduce.specs.Pairs.{Joined, Candidate}
use Rattle.reduce.proofs.Agree.{Goes, agree_iff}
use Rattle.reduce.proofs.FirstColumns.{first_column}
use Rattle.model.proofs.Values.{value_same}
use Rattle.entering.proofs.Lines.{laid_few}
use Rattle.reduce.proofs.LaidColumns.{hidden_or_not, goes_same, joint_columns, laid_column, hidden_laid, laid_hidden}

module _ {Q : Query} {n : ℕ} {rows words : List ℕ} (given : Given Q n rows words) where
  -- a hidden variable of a line, and its first column
  has_variable : (i v : ℕ) → i < length Q → bit (hidden_word words i) v ≡ 1 → HasVariable rows i v
  has_variable i v l e =
      let (p, h) = ((given.worded.line i l).variables v).0 e in
      (p, omega (arith, h.there, laid_few given.laid i l), hidden_laid given.laid i l p h)

  stands_first : (i v p : ℕ) → i < length Q → HasVariable rows i v → FirstColumn rows i (term_value (hidden v)) p → HiddenAt (line_at Q i) v p
  stands_first i v p l h f = laid_hidden given.laid i l p v f.below (f.here h.0 h.1 h.2)

  module _ (p b : ℕ) (c : Candidate Q p) (d : Candidate Q b) where
    abbrev i : ℕ
    i = line_of p

    abbrev j : ℕ
    j = line_of b

    abbrev t : ℕ
    t = target_of p

    abbrev u : ℕ
    u = target_of b

    abbrev A : Line
    A = line_at Q i

    abbrev S : Line
    S = line_at Q t

    abbrev B : Line
    B = line_at Q j

    abbrev D : Line
    D = line_at Q u

    abbrev shared : ℕ
    shared = bit_and (hidden_word words i) (hidden_word words j)

    goes_first : Goes A S
    goes_first = ((agree_iff A S A S).0 c.goes).0

    goes_second : Goes B D
    goes_second = ((agree_iff B D B D).0 d.goes).0

    pub have_shared : (v : ℕ) → bit shared v ≡ 1 → HasVariable rows i v × HasVariable rows j v
    have_shared v e =
        let (x, y) = (bit_and_iff (hidden_word words i) (hidden_word words j) v).0 e in
        (has_variable i v c.line x, has_variable j v d.line y)

    -- the terms of the targets where the lines have a variable first
    first_terms : (v x y : ℕ) → HiddenAt A v x → HiddenAt B v y → (laid_term rows t x ≡ laid_term rows u y) ↔ (at S x ≡ at D y)
    first_terms v x y h k =
        let e = laid_column given.laid t c.target x (omega (arith, h.there, goes_first.width)) in
        let f = laid_column given.laid u d.target y (omega (arith, k.there, goes_second.width)) in
        (λ s. value_same (at S x) (at D y) (sym e ∙ s ∙ f), λ s. e ∙ ap term_value s ∙ sym f)

    joined_linked : Joined Q p b → (v : ℕ) → bit shared v ≡ 1 → Linked rows v i j t u
    joined_linked a v e x y f g =
        let (h, k) = have_shared v e in
        let one = stands_first i v x c.line h f in
        let two = stands_first j v y d.line k g in
        let joint = (joint_columns goes_first goes_second).0 ((agree_iff A S B D).0 a).2 in
        (first_terms v x y one two).1 (joint x y one.there two.there (one.is ∙ sym two.is))

    linked_columns : ((v : ℕ) → bit shared v ≡ 1 → Linked rows v i j t u) → (x y : ℕ) → x < length A.columns → y < length B.columns
        → at A x ≡ at B y → at S x ≡ at D y
    linked_columns link x y l k e =
        ⊎_elim (λ r. variable r.0 r.1) (λ f. kept f) (hidden_or_not (at A x))
      where
        kept : ((v : ℕ) → at A x ≡ hidden v → ⊥) → at S x ≡ at D y
        kept f = sym (goes_same goes_first x l f) ∙ e ∙ goes_same goes_second y k (λ v s. f v (e ∙ s))

        variable : (v : ℕ) → at A x ≡ hidden v → at S x ≡ at D y
        variable v s =
            let one : HiddenAt A v x = record { there = l; is = s } in
            let two : HiddenAt B v y = record { there = k; is = sym e ∙ s } in
            let set = (bit_and_iff (hidden_word words i) (hidden_word words j) v).1
            (((given.worded.line i c.line).variables v).1 (x, one), ((given.worded.line j d.line).variables v).1 (y, two)) in
            let (h, g) = have_shared v set in
            let (x', f) = first_column rows i (term_value (hidden v)) in
            let (y', f') = first_column rows j (term_value (hidden v)) in
            let one' = stands_first i v x' c.line h f in
            let two' = stands_first j v y' d.line g f' in
            let own = (joint_columns goes_first goes_first).0 ((agree_iff A S A S).0 c.goes).2 in
            let own' = (joint_columns goes_second goes_second).0 ((agree_iff B D B D).0 d.goes).2 in
            own x x' l one'.there (s ∙ sym one'.is)
            ∙ (first_terms v x' y' one' two').0 (link v set x' y' f f')
            ∙ own' y' y two'.there k (two'.is ∙ sym two.is)

    pub linked_iff : ((v : ℕ) → bit shared v ≡ 1 → Linked rows v i j t u) ↔ Joined Q p b
    linked_iff = (
      λ link. (agree_iff A S B D).1 (goes_first, goes_second, (joint_columns goes_first goes_second).1 (linked_columns link)),
      joined_linked,
    )
