-- The order of labels over archives: a label is at or below another exactly when each view that determines the line of the other determines
-- its own.
use mathlib.Core.Path.{◌≡◌, refl, sym, ap, ◌∙◌, subst}
use mathlib.Core.Logic.Iff
use mathlib.Core.Logic.{◌↔◌, ◌⊎◌, inl, inr, ⊎_elim}
use mathlib.Core.Bool.{Bool, true, false, cond}
use mathlib.Core.Option.{some, some-injective}
use mathlib.Core.List.{List, [], ◌∷◌}
use Prim.Native.Nat.{ℕ, ◌+◌, ◌-◌, ◌/◌, ◌%◌, ◌^◌, ◌<◌}
use native.Mathlib.Decide.{ℕ_discrete}
use native.Mathlib.Omega.{arith}
use lib.ListN.{length, get_elem?, get_or, drop, get_or-append}
use lib.Pow.{shr-shr}
use Rattle.std.specs.Prelude.{Result}
use Rattle.words.specs.Bits.{bit, half_bits}
use Rattle.words.proofs.Bits.{bit_zero, below_power}
use Rattle.words.proofs.Lowest.{trailing_least}
use Rattle.theory.specs.Query.{Line, ◌∈◌, Fits}
use Rattle.theory.specs.Archive.{Determines}
use Rattle.theory.specs.Cover.{Rewrites}
use Rattle.theory.specs.Executable.Label.{labels}
use Rattle.word_list.specs.Order.{ascending}
use Rattle.theory.proofs.Lists.{place, at_place, place_below, permuted_in, pointwise_in}
use Rattle.theory.proofs.Tuples.{get_d_mem}
use Rattle.theory.proofs.Reduce.{reduced_fits}
use Rattle.theory.proofs.Determine.{view_determines_line, covers_iff_rewrites}
use Rattle.theory.proofs.Executable.Show.{shown_fits}
use Rattle.model.specs.declared.Refusal.{Refusal}
use Rattle.query_text.specs.Text.{Reading, refused, accepted, read}
use Rattle.query_text.proofs.Accepted.{accepted_well_read}
use Rattle.policy_text.specs.Declared.{Declared}
use Rattle.policy_text.specs.WellFormed.{WellFormed}
use Rattle.label_order.specs.Order.{at_or_below}
use Rattle.label_order.proofs.Halves.{Includes, below_iff}
use Rattle.labelling.proofs.Loaded.{loaded_to}
use Rattle.label_lists.specs.Buffer.{too_short}
use Rattle.label_lists.specs.Listing.{SaidListing, not_listed, given, listed, list_reading, Lists}
use Rattle.desk.specs.Rewriting.{LabelOf}
use Rattle.desk.specs.Comparing.{Gave, DeterminedWith, LabelledLine, OverArchives}
use Rattle.desk.proofs.Rewriting.{labels_rewrite}

-- ---- two lines and their labels

-- bit k of the high half says whether the view at place k determines the line
view_bit : (d : Declared) {A : Line} {w : ℕ} → Fits d.widths A → LabelOf d A w → (k : ℕ)
    → (bit (w / 2 ^ half_bits) k ≡ 1) ↔ ((v : Line) × (get_elem? d.views k ≡ some v) × Determines d.widths (v ∷ []) (A ∷ []))
view_bit d {A} {w} fits l k =
    let at_bit : half_bits + k ≡ 31 + (k + 1) = omega arith in
    let here : bit (w / 2 ^ half_bits) k ≡ bit w (31 + (k + 1)) = ap (λ (n : ℕ). n % 2) (shr-shr w half_bits k) ∙ ap (bit w) at_bit in
    let back : k + 1 - 1 ≡ k = omega arith in
    let said = l.views (k + 1) (omega arith) in (
      λ e. let (v, at, r) = said.0 (sym here ∙ e) in (v, ap (get_elem? d.views) (sym back) ∙ at, (determines v).0 r),
      λ (v, at, c). here ∙ said.1 (v, ap (get_elem? d.views) back ∙ at, (determines v).1 c),
    )
  where
    determines : (v : Line) → Rewrites d.widths v A ↔ Determines d.widths (v ∷ []) (A ∷ [])
    determines v = Iff.symm (Iff.trans (view_determines_line d.widths v A fits) (covers_iff_rewrites d.widths v A fits))

module _ (d : Declared) (good : WellFormed d) (A B : Line) (A_fits : Fits d.widths A) (B_fits : Fits d.widths B) (x y : ℕ)
    (A_label : LabelOf d A x) (B_label : LabelOf d B y) where
  below_determined : at_or_below x y ≡ true → DeterminedWith d A B
  below_determined t v m b =
      let (k, at) = place m in
      let set = (view_bit d B_fits B_label k).1 (v, at, b) in
      ⊎_elim
      (λ none. absurd (omega (arith, bit_zero k, sym (ap (λ (n : ℕ). bit n k) none) ∙ set)))
      (λ i.
      let low : k < half_bits = omega (arith, place_below d.views k at, good.views.few) in
      let (u, there, a) = (view_bit d A_fits A_label k).0 (i.views k low set) in
      subst (λ (z : Line). Determines d.widths (z ∷ []) (A ∷ [])) (some-injective u v (sym there ∙ at)) a)
      ((below_iff x y).0 t)

  module _ (together : DeterminedWith d A B) where
    -- the view at a bit of y determines both lines
    both : (k : ℕ) → bit (y / 2 ^ half_bits) k ≡ 1
        → (v : Line) × (get_elem? d.views k ≡ some v) × Determines d.widths (v ∷ []) (A ∷ []) × Determines d.widths (v ∷ []) (B ∷ [])
    both k e = let (v, at, b) = (view_bit d B_fits B_label k).0 e in (v, at, together v (at_place d.views k at) b, b)

    -- a view has one table, so that lines which it determines have that
    includes : Dec (y / 2 ^ half_bits ≡ 0) → (y / 2 ^ half_bits ≡ 0) ⊎ Includes x y
    includes (yes e) = inl e
    includes (no f) =
        let n = y / 2 ^ half_bits in
        let (v, _, a, b) = both _ (trailing_least n n (omega (arith, f)) (below_power n)).set in
        let to_A = (view_determines_line d.widths v A A_fits).0 a in
        let to_B = (view_determines_line d.widths v B B_fits).0 b in
        inr
        (record {
          table = A_label.table ∙ sym to_A.table ∙ to_B.table ∙ sym B_label.table;
          views = λ k l e. let (u, at, c, _) = both k e in (view_bit d A_fits A_label k).1 (u, at, c);
        })

    determined_below : at_or_below x y ≡ true
    determined_below = (below_iff x y).1 (includes (ℕ_discrete (y / 2 ^ half_bits) 0))

  order_of_lines : (r : Bool) → r ≡ at_or_below x y → (r ≡ true) ↔ DeterminedWith d A B
  order_of_lines r e = (λ t. below_determined (sym e ∙ t), λ w. e ∙ determined_below w)

-- ---- words that calls gave

-- a word that was given is one of the list
gave_listed : (short : Bool) (before ws : List ℕ) {r : Result ℕ Refusal} {after : List ℕ} {x : ℕ}
    → Lists r after (cond short (not_listed before 10 0) (given ws before)) → Gave r after x → x ∈ ws
unfolding not_listed given
gave_listed true before ws o (k, below, is) = absurd (omega (arith, below, ap (λ (s : SaidListing). s.count) o.reply))
gave_listed false before ws {x = x} o (k, below, is) =
    let within : k < length ws = omega (arith, below, ap (λ (s : SaidListing). s.count) o.reply) in
    let cell : get_or ws k 0 ≡ x =
    sym (get_or-append ws (drop (length ws) before) 0 k within) ∙ ap (λ (l : List ℕ). get_or l k 0) (sym o.buffer) ∙ is in
    subst (λ (n : ℕ). n ∈ ws) cell (get_d_mem ws k 0 within)

line_fits : (d : Declared) (text : List ℕ) {A : Line} {x : ℕ} → LabelledLine d text A x → Fits d.widths A
line_fits d text {A} l =
    let w = accepted_well_read d.widths text l.query l.reads in
    shown_fits l.shows (reduced_fits l.reduces w.fits) A l.line

module _ (d : Declared) (good : WellFormed d) (text : List ℕ) where
  -- a word that was given is the label of a line of the text's query
  gave_label : (v : Reading) → read d.widths text ≡ v → (before : List ℕ) {r : Result ℕ Refusal} {after : List ℕ} {x : ℕ}
      → Lists r after (list_reading d before v) → Gave r after x → (A : Line) × LabelledLine d text A x
  unfolding list_reading not_listed listed
  gave_label (refused n k) e before o (_, below, _) = absurd (omega (arith, below, ap (λ (s : SaidListing). s.count) o.reply))
  gave_label (accepted Q) e before o g =
      let w = accepted_well_read d.widths text Q e in
      let ws = ascending (labels d.views Q) in
      let ls = labels_rewrite d good Q w.clear w.fits in
      let (lined, form, p) = ls.any_form ls.form ls.reduces in
      let (A, m, l) = pointwise_in form.each (permuted_in p (gave_listed (too_short before ws) before ws o g)) in (
        A,
        record {
          query = Q;
          reads = e;
          form = ls.form;
          reduces = ls.reduces;
          shown = form.shown;
          shows = form.shows;
          line = m;
          label = l;
        },
      )

pub order_over_archives : OverArchives
order_over_archives = record {
  of_lines = order_of_lines;
  of_calls = λ p l text other before lent g h after then one two x y gx gy r e.
      let d = l.declared in
      let good = (loaded_to l).good in
      record {
        first = gave_label d good text (read d.widths text) refl before (one.loaded l) gx;
        second = gave_label d good other (read d.widths other) refl lent (two.loaded l) gy;
        exactly = λ A B a b.
            order_of_lines d good A B (line_fits d text a) (line_fits d other b) x y a.label b.label r e;
      };
}
