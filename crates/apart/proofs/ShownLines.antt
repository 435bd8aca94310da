-- The lines that stand in the rows of a query that is reduced and shown there.
use mathlib.Core.Path.{◌≡◌, sym, ap, subst, ◌∙◌}
use mathlib.Core.Bool.{Bool, true, false, cond, ◌&&◌}
use mathlib.Core.List.Memᴰ
use mathlib.Core.List.{List, [], map}
use Prim.Native.Nat.{ℕ, ◌≤◌, ◌<◌}
use native.Mathlib.Omega.{arith}
use lib.Dec.{T, leb, leb→le}
use lib.ListN.{length, length-map}
use Rattle.theory.specs.Query.{Term, constant, shown, hidden, over, Query, ◌∈◌, Fits}
use Rattle.theory.specs.Executable.Show.{show_term, show}
use Rattle.theory.specs.Executable.Reduce.{reduce}
use Rattle.theory.proofs.Tuples.{get_d_map, get_d_mem, map_same}
use Rattle.model.specs.Limits.{most_columns, last_variable, term_within}
use Rattle.model.proofs.Limits.{line_within_iff}
use Rattle.query_text.specs.WellRead.{WellRead}
use Rattle.policy_text.specs.Declared.{Declared}
use Rattle.entering.specs.Agree.{line_at}
use Rattle.entering.specs.Left.{pick, lines_at}
use Rattle.entering.proofs.Left.{pick_map, lines_subset}
use Rattle.entering.proofs.Shown.{shown_by, line_same}
use Rattle.words.specs.Bits.{is_set}
use Rattle.labelling.specs.Posed.{ShownIn}
use Rattle.labelling.proofs.Lines.{some_line}
use Rattle.freezing.specs.Rows.{HasLine}
use Rattle.apart.specs.Writing.{HasLines}

-- ---- a term's number is within its limit, shown or not

within_shown : (w : ℕ) (t : Term) → T (term_within t) → T (term_within (shown_by w t))
unfolding term_within shown_by
within_shown w (constant c) h = h
within_shown w (shown n) h = h
within_shown w (hidden n) h = go (leb n last_variable && is_set w n)
  where
    go : (b : Bool) → T (term_within (cond b (shown n) (hidden n)))
    go true = h
    go false = h

-- ---- the lines

-- every line is in the rows, its variables of the word shown
abbrev pub in_rows : ℕ → Query → Query
in_rows w Q = map (over (shown_by w)) Q

pub line_in_rows : (w : ℕ) (Q : Query) (k : ℕ) → k < length Q → line_at (in_rows w Q) k ≡ over (shown_by w) (line_at Q k)
unfolding line_at
line_in_rows w Q k h = get_d_map (over (shown_by w)) Q k (record { table = 0; columns = [] }) (record { table = 0; columns = [] }) h

line_there : (Q : Query) (k : ℕ) → k < length Q → line_at Q k ∈ Q
unfolding line_at
line_there Q k h = get_d_mem Q k (record { table = 0; columns = [] }) h

module _ {d : Declared} {Q : Query} {left : ℕ} {lines : List ℕ} (s : ShownIn d Q left lines) where
  abbrev pub lines_in : Query
  lines_in = in_rows s.word Q

  -- those left are the reduced query, its shared variables shown
  pub left_shown : lines_at left lines_in ≡ show (reduce Q)
  unfolding lines_at show
  left_shown =
      let R = pick (is_set left) Q in
      pick_map (over (shown_by s.word)) (is_set left) Q
      ∙ map_same (over (shown_by s.word)) (over (show_term R)) R
      (λ A m. line_same (lines_at left Q) s.word s.shared (λ n B i. s.shown.small n B (lines_subset left Q i)) A m)
      ∙ ap show s.reduced

  pub line_fits : (k : ℕ) → k < length Q → Fits d.widths (line_at lines_in k)
  line_fits k h = subst (Fits d.widths) (sym (line_in_rows s.word Q k h)) (some_line s.shown k h).fits

  module _ (well : WellRead d.widths Q) where
    term_within_lem : (k : ℕ) → k < length Q → (t : Term) → t ∈ (over (shown_by s.word) (line_at Q k)).columns → T (term_within t)
    term_within_lem k h t m =
        let A = line_at Q k in
        let (u, i, e) = Memᴰ.of_map (shown_by s.word) A.columns m in
        let in_line = ((line_within_iff A).0 (well.within A (line_there Q k h))).1 in
        subst (λ (x : Term). T (term_within x)) e (within_shown s.word u (in_line u i))

    has_line : (k : ℕ) → k < length Q → HasLine lines k (over (shown_by s.word) (line_at Q k))
    unfolding term_within
    has_line k h = record {
      line = (some_line s.shown k h).line;
      columns =
          subst (λ (n : ℕ). n ≤ most_columns) (sym (length-map (line_at Q k).columns (shown_by s.word)))
          (s.shown.columns (line_at Q k) (line_there Q k h));
      small_shown = λ n m. leb→le n last_variable (term_within_lem k h (shown n) m);
      small_hidden = λ n m. leb→le n last_variable (term_within_lem k h (hidden n) m);
    }

    pub has_lines : {n : ℕ} → length Q ≡ n → HasLines lines_in n lines
    has_lines {n} count = record {
      count = length-map Q (over (shown_by s.word)) ∙ count;
      few = omega (arith, s.shown.lines, count);
      line = λ k h.
          let b : k < length Q = rw count h in
          subst (HasLine lines k) (sym (line_in_rows s.word Q k b)) (has_line k b);
    }
