-- A query laid in rows: whether the partition settles it is whether it has a view for each line left, and the reply says so.
use mathlib.Core.Path.{◌≡◌, refl, sym, ap, subst, ◌∙◌}
use mathlib.Core.Bool.{Bool, true, cond}
use Rattle.std.specs.Prelude.{Option, None, Some, MatchOption}
use mathlib.Core.List.Memᴰ
use mathlib.Core.List.{List}
use Prim.Native.Nat.{ℕ, ◌<◌}
use native.Mathlib.Omega.{arith}
use borrow.Author.Tests.{eqb-true}
use lib.Dec.{T}
use Rattle.std.specs.Prelude.{Ok}
use Rattle.theory.specs.Query.{over, Line, Query, ◌∈◌}
use Rattle.theory.specs.Executable.Cover.{covers}
use Rattle.theory.specs.Executable.Label.{labels, settles}
use Rattle.theory.specs.Executable.Reduce.{reduce}
use Rattle.theory.specs.Executable.Show.{show_term, show}
use Rattle.theory.specs.Executable.Test.{any}
use Rattle.theory.proofs.Executable.Test.{all_iff}
use mir.Facts.{yes_eqb}
use Rattle.words.specs.Bits.{is_set}
use Rattle.words.proofs.Answers.{holds_true, fails_false}
use Rattle.model.specs.declared.Tables.{Tables}
use Rattle.policy_text.specs.Declared.{Declared}
use Rattle.policy_text.specs.Policy.{views_word}
use Rattle.entering.specs.Agree.{line_at}
use Rattle.entering.proofs.Left.{in_lines, lines_in_lem}
use Rattle.labelling.specs.Posed.{ShownIn}
use Rattle.labelling.specs.Settled.{settled, granted, answers}
use Rattle.labelling.proofs.Partitions.{settled_settles}
use Rattle.apart.specs.Archives.{settlement, archives, said_telling, ToldApart, Gives}
use Rattle.apart.specs.declared.telling.Telling.TheVariants.{Settled, Apart}
use Rattle.apart.specs.Unsettled.{AnswersLine, Unsettled, UnsettledFound}
use Rattle.apart.specs.Writing.{OddLine}
use Rattle.apart.specs.Telling.{AskedRows}
use Rattle.apart.proofs.TableViews.{partition_known}

module _ {d : Declared} {t : Tables} {ns : List ℕ} {Q : Query} {r : List ℕ} {i n : ℕ} {lines : List ℕ}
    (a : AskedRows d t ns Q r i n lines) {left : ℕ} {rows : List ℕ} (s : ShownIn d Q left rows) where
  abbrev is_settled : Bool
  is_settled = settled (views_word ns) (labels d.views Q)

  -- the partition has a view for each line left
  abbrev AnswersAll : Type 0
  AnswersAll = (j : ℕ) → j < n → is_set left j ≡ true → AnswersLine d Q left j ns

  is_settles : is_settled ≡ settles (granted d.views ns) Q
  is_settles = settled_settles d a.ready.good ns (partition_known a.ready i ns a.partition) Q a.posed.fits

  answered : AnswersAll → T (settles (granted d.views ns) Q)
  unfolding settles show
  answered each =
      (all_iff (λ A. any (λ v. covers v A) (granted d.views ns)) (show (reduce Q))).1 (λ A m.
      let (B, b, e) = Memᴰ.of_map (over (show_term (reduce Q))) (reduce Q) m in
      let (j, h, on, is) = lines_in_lem left Q (subst (λ (R : Query). B ∈ R) (sym s.reduced) b) in
      let there = each j (omega (arith, h, a.posed.count)) (sym (holds_true (is_set left j) (yes_eqb on))) in
      let shown = subst (λ (R : Query). T (answers d.views (over (show_term R) (line_at Q j)) ns)) s.reduced there in
      subst (λ (C : Line). T (answers d.views C ns)) (ap (over (show_term (reduce Q))) is ∙ e) shown)

  unanswered : {k : ℕ} → Unsettled d Q left k ns → T (settles (granted d.views ns) Q) → ⊥
  unfolding settles show
  unanswered {k} u t =
      let m = in_lines left Q k u.there (eqb-true _ _ u.stays) in
      let A = over (show_term (reduce Q)) (line_at Q k) in
      let in_shown : A ∈ show (reduce Q) = Memᴰ.map (over (show_term (reduce Q))) (subst (λ (R : Query). line_at Q k ∈ R) s.reduced m) in
      let x = (all_iff (λ B. any (λ v. covers v B) (granted d.views ns)) (show (reduce Q))).0 t A in_shown in
      u.unanswered (subst (λ (R : Query). T (answers d.views (over (show_term R) (line_at Q k)) ns)) (sym s.reduced) x)

  found : (line : Option ℕ) → UnsettledFound r i n rows left line → MatchOption line AnswersAll (λ k. Unsettled d Q left k ns)
  found line u = u d t Q s.word ns a.ready a.posed.count s.shown s.shared a.partition

  pub says_settled : UnsettledFound r i n rows left None → (before after : List ℕ) → after ≡ before
      → Gives d i (Ok Settled) before after (cond is_settled settlement (archives Q))
  unfolding said_telling
  says_settled u before after same =
      let yes_settled = is_settles ∙ sym (holds_true _ (answered (found None u))) in
      rw yes_settled (record { reply = refl; buffer = same })

  module _ {k : ℕ} (u : UnsettledFound r i n rows left (Some k)) where
    pub odd_line : OddLine d t ns Q r i n rows left k
    odd_line = record {
      ready = a.ready;
      partition = a.partition;
      query = a.query;
      count = a.posed.count;
      shown = s;
      unsettled = found (Some k) u;
    }

    pub says_apart : (count : ℕ) (before after : List ℕ) → ToldApart d i Q count before after
        → Gives d i (Ok (Apart count)) before after (cond is_settled settlement (archives Q))
    unfolding said_telling
    says_apart count before after g =
        let not_settled = is_settles ∙ sym (fails_false _ (unanswered (found (Some k) u))) in
        rw not_settled (count, refl, g)
