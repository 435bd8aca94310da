-- A line that a partition has no view for: the rows that it and the other lines become, with the marked rows, tell the query apart.
use mathlib.Core.Path.{◌≡◌, sym, ap, subst, ◌∙◌}
use mathlib.Core.Logic.{◌⊎◌}
use mathlib.Core.List.{List, ◌++◌, map}
use mathlib.Core.Option.{some}
use Prim.Native.Nat.{ℕ, ◌+◌, ◌-◌, ◌≤◌, ◌<◌}
use native.Mathlib.Omega.{arith}
use lib.ListN.{length, get_elem?, length-map}
use Rattle.theory.specs.Query.{Term, constant, shown, hidden, over, Line, Query, ◌∈◌}
use Rattle.theory.specs.Archive.{Row}
use Rattle.theory.specs.Cover.{Covers}
use Rattle.theory.specs.Apart.{NoRepeats, TellsApart}
use Rattle.theory.specs.Reduce.{without}
use Rattle.theory.specs.Executable.Cover.{covers}
use Rattle.theory.specs.Executable.Reduce.{reduce}
use Rattle.theory.specs.Executable.Show.{show_term, show}
use Rattle.theory.specs.Executable.Test.{kind, number}
use Rattle.theory.proofs.Lists.{place, at_place, place_below, there, length_without}
use Rattle.theory.proofs.Determine.Freeze.{In}
use Rattle.theory.proofs.Determine.Block.{block_long, variables, Spared, frozen_row, ExtraRows}
use Rattle.theory.proofs.Determine.Apart.{told_apart_shown}
use Rattle.theory.proofs.Executable.Cover.{covers_iff}
use Rattle.theory.proofs.Executable.Reduce.{reduce_reduces}
use Rattle.theory.proofs.Executable.Test.{any_iff}
use borrow.Author.Tests.{eqb-true}
use Rattle.words.specs.Bits.{is_set}
use Rattle.words.specs.Sets.{clear_bit}
use Rattle.model.specs.Limits.{most_columns, most_lines, last_variable}
use Rattle.model.specs.Rows.{laid_term, LaidAt}
use Rattle.model.specs.Value.{term_value, line_value}
use Rattle.model.specs.declared.Term.{Term as TermValue}
use Rattle.model.specs.declared.Tables.{Tables}
use Rattle.policy_text.specs.Declared.{Declared, Grants}
use Rattle.entering.specs.Agree.{line_at}
use Rattle.entering.specs.Left.{lines_at}
use Rattle.entering.proofs.Left.{pick_few, lines_in_lem, in_lines, lines_subset}
use Rattle.entering.proofs.Shown.{line_same}
use Rattle.labelling.specs.Settled.{granted}
use Rattle.labelling.proofs.Partitions.{grants_iff, granted_iff}
use Rattle.freezing.specs.Blocks.{SparedRows, SpareFound}
use Rattle.freezing.specs.Rows.{HasLine}
use Rattle.freezing.proofs.LineColumns.{laid_used}
use Rattle.apart.specs.Writing.{HasLines, OddLine}
use Rattle.apart.proofs.OtherLines.{other_lines}
use Rattle.apart.proofs.TableViews.{fits_narrow, partition_known}
use Rattle.apart.proofs.ShownLines.{lines_in, line_in_rows, left_shown, has_lines}

-- ---- a constant of a line is none of the block's numbers

spared_line : {base : ℕ} {rows : List ℕ} {count : ℕ} → SparedRows base rows count → (k : ℕ) (A : Line) → k < count
    → LaidAt rows k (line_value A) → length A.columns ≤ most_columns → (c : ℕ) → constant c ∈ A.columns
    → (c < base) ⊎ (base + block_long ≤ c)
unfolding term_value kind number
spared_line {base} {rows} spare k A low laid few c m =
    let (p, at_p) = place m in
    let h = place_below A.columns p at_p in
    let is : laid_term rows k p ≡ term_value (constant c) =
    laid_used A laid few p h ∙ ap term_value (there A.columns p (constant 0) at_p)
    in
    subst (λ (x : ℕ). (x < base) ⊎ (base + block_long ≤ x)) (ap (λ (t : TermValue). t.number) is)
    (spare k p low (omega (arith, h, few)) (ap (λ (t : TermValue). t.mark) is))

-- ---- the rows

module _ {d : Declared} {t : Tables} {ns : List ℕ} {Q : Query} {r : List ℕ} {i n : ℕ} {lines : List ℕ} {left k : ℕ}
    (o : OddLine d t ns Q r i n lines left k) where
  abbrev pub S : Query
  S = lines_in o.shown

  abbrev pub A : Line
  A = line_at S k

  pub held : HasLines S n lines
  held = has_lines o.shown o.query o.count

  pub low : k < length S
  low = omega (arith, o.unsettled.there, o.count, held.count)

  -- the line as it is shown in what is left of the query
  is_shown : A ≡ over (show_term (lines_at left Q)) (line_at Q k)
  is_shown =
      line_in_rows o.shown.word Q k o.unsettled.there
      ∙ line_same (lines_at left Q) o.shown.word o.shown.shared
      (λ m B b. o.shown.shown.small m B (lines_subset left Q b)) (line_at Q k)
      (in_lines left Q k o.unsettled.there (eqb-true _ _ o.unsettled.stays))

  uncovered : (v : Line) → v ∈ granted d.views ns → Covers v A → ⊥
  uncovered v m c =
      o.unsettled.unanswered
      ((any_iff (λ u. covers u (over (show_term (lines_at left Q)) (line_at Q k))) (granted d.views ns)).1
      (v, m, (covers_iff v _).1 (subst (Covers v) is_shown c)))

  -- a line of the reduced query, shown, is in a row
  line_of_lem : (B : Line) → B ∈ show (reduce Q) → (j : ℕ) × (j < n) × HasLine lines j B
  line_of_lem B m =
      let (j, h, e, is) = lines_in_lem left S (subst (λ (R : Query). B ∈ R) (sym (left_shown o.shown)) m) in
      let b : j < n = omega (arith, h, held.count) in
      (j, b, subst (HasLine lines j) is (held.line j b))

  small : (f : ℕ → Term) → ((B : Line) (j : ℕ) → HasLine lines j B → (m : ℕ) → f m ∈ B.columns → m ≤ last_variable)
      → (m : ℕ) → In (show (reduce Q)) (f m) → m < variables
  small f each m (B, b, x) = let (j, h, l) = line_of_lem B b in omega (arith, each B j l m x)

  module _ {base : ℕ} (spare : SpareFound r lines base) where
    spared_lines : Spared base (show (reduce Q))
    spared_lines c (B, b, x) =
        let (j, h, l) = line_of_lem B b in
        spared_line spare.of_lines j B (omega (arith, h, held.few)) l.line l.columns c x

    spared_views : Spared base (granted d.views ns)
    spared_views c (v, m, x) =
        let g = (granted_iff d.views ns (partition_known o.ready i ns o.partition) v).1 m in
        let b = place_below d.views (g.number - 1) g.view in
        let good = o.ready.good in
        spared_line spare.of_views (g.number - 1) v (omega (arith, b, good.views.few)) (o.ready.laid.row _ v g.view)
        (fits_narrow good (good.views.each v (at_place d.views (g.number - 1) g.view)).fits) c x

    abbrev pub odd : Row
    odd = frozen_row base A

    abbrev pub others : List Row
    others = map (frozen_row base) (lines_at (clear_bit left k) S)

    -- eight lines, one of them odd
    pub others_few : length others + 1 ≤ most_lines
    unfolding lines_at
    others_few =
        let (j, at_j, e) = other_lines left S k low o.unsettled.stays in
        let l = lines_at left S in
        let one = length_without j l (place_below l j at_j) in
        let same : length others ≡ length (without j l) = length-map (lines_at (clear_bit left k) S) (frozen_row base) ∙ ap length e in
        omega (arith, one, same, pick_few (is_set left) S, held.count, held.few)

    pub rows_apart : (extra : List Row) → ExtraRows base (granted d.views ns) odd extra → NoRepeats extra
        → TellsApart d.widths (Grants d i) Q odd (others ++ extra)
    rows_apart extra e once =
        let (j, at_j, rest) = other_lines left S k low o.unsettled.stays in
        let is = left_shown o.shown in
        let there_j : get_elem? (show (reduce Q)) j ≡ some A = subst (λ (R : Query). get_elem? R j ≡ some A) is at_j in
        let line = held.line k (omega (arith, low, held.count)) in
        let told = told_apart_shown d.widths (granted d.views ns) o.query.clear o.query.fits (reduce_reduces Q) base
        spared_lines spared_views (small shown (λ B x l. l.small_shown)) (small hidden (λ B x l. l.small_hidden))
        j A there_j line.columns uncovered extra e once in
        let mapped : map (frozen_row base) (without j (show (reduce Q))) ≡ others =
        ap (λ (R : Query). map (frozen_row base) (without j R)) (sym is) ∙ ap (map (frozen_row base)) (sym rest) in
        of_partition (subst (λ (l : List Row). TellsApart d.widths (λ v. v ∈ granted d.views ns) Q odd (l ++ extra)) mapped told)
      where
        of_partition : {odd' : Row} {rows : List Row} → TellsApart d.widths (λ v. v ∈ granted d.views ns) Q odd' rows
            → TellsApart d.widths (Grants d i) Q odd' rows
        of_partition x = record {
          fit = x.fit;
          once = x.once;
          agree = λ v g.
              x.agree v
              ((granted_iff d.views ns (partition_known o.ready i ns o.partition) v).0
              ((grants_iff d o.ready.good i ns o.partition v).0 g));
          answer = x.answer;
          has = x.has;
          lacks = x.lacks;
        }
