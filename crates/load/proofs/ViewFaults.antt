-- The checks of a view's line in the order of the code's tests.
use mathlib.Core.Path.{◌≡◌, refl, sym, ap, ◌∙◌}
use mathlib.Core.Bool.{true, false, cond, not, ◌&&◌}
use mathlib.Core.List.{List, []}
use mathlib.Core.Option.{Option, none, some}
use Prim.Native.Nat.{ℕ, suc, ◌-◌, ◌≤◌}
use lib.Dec.{eqb}
use lib.ListN.{length}
use Rattle.words.proofs.Answers.{both_true}
use Rattle.theory.specs.Query.{Line}
use Rattle.model.specs.Fields.{Numbered, view_line}
use Rattle.model.specs.Limits.{up_to, most_views, line_within}
use Rattle.model.specs.Checks.{first_fault, misfit}
use Rattle.model.specs.Parsed.{good_value}
use Rattle.policy_text.specs.Text.{view_fault, faulty, entered, enter, views as view_block}
use Rattle.policy_text.specs.Declared.{Declared}
use Rattle.policy_lines.specs.Value.{view_value, no_view}
use Rattle.policy_lines.specs.declared.ViewLine.{ViewLine}
use Rattle.load.specs.Steps.{line_fault, more_views}
use Rattle.load.proofs.Lines.{Kind, Within, reading, within, malformed_fault, outside_fault, within_fault, in_turn, out_of_turn}
use Rattle.load.proofs.Lines.{taken, taken_entered, faulty_entered}

unfoldable pub view_kind : Kind Line ViewLine
unfolding no_view
view_kind =
    record {
      ok = λ t. t.ok;
      outside = λ t. t.outside;
      number = λ t. t.number;
      no_more = no_view;
      good = λ e. record { ok = true; outside = false; number = e.number; view = good_value e.value.table e.value.columns };
      test = λ e. up_to most_views e.number && line_within e.value;
      ok_no_more = λ b. refl;
      outside_no_more = λ b. refl;
      ok_good = λ e. refl;
      outside_good = λ e. refl;
      number_good = λ e. refl;
    }

pub view_reading : (o : Option (Numbered Line)) → view_value o ≡ reading view_kind o
unfolding view_value reading view_kind
view_reading none = refl
view_reading (some e) = refl

module _ (d : Declared) (o : Option (Numbered Line)) (views : ℕ) (t : ViewLine) (count : views ≡ length d.views)
    (value : t ≡ view_value o) where
  read : t ≡ reading view_kind o
  read = value ∙ view_reading o

  after : Numbered Line → ℕ
  after e = cond (not (eqb e.number (suc (length d.views)))) 3 (misfit d.widths [] e.value)

  shape : (e : Numbered Line) → view_fault d e ≡ cond (not (view_kind.test e)) 2 (after e)
  unfolding view_fault first_fault after view_kind misfit
  shape e = refl

  pub view_malformed : t.ok ≡ false → 1 ≡ line_fault o (view_fault d)
  unfolding view_kind
  view_malformed h = malformed_fault view_kind o t read (view_fault d) after shape h

  pub view_outside : t.ok ≡ true → t.outside ≡ true → 2 ≡ line_fault o (view_fault d)
  unfolding view_kind
  view_outside h g = outside_fault view_kind o t read (view_fault d) after shape h g

  module _ (ok : t.ok ≡ true) (inside : t.outside ≡ false) where
    unfoldable pub view_within : Within view_kind o t
    unfolding view_kind read
    view_within = within view_kind o t read ok inside

    pub view_line_within : line_within view_within.entry.value ≡ true
    unfolding view_kind
    view_line_within = (both_true (up_to most_views view_within.entry.number) _ view_within.tested).1

    pub view_line_lem : t.view ≡ good_value view_within.entry.value.table view_within.entry.value.columns
    unfolding view_kind
    view_line_lem = ap (λ (l : ViewLine). l.view) view_within.line

    module _ (positive : 1 ≤ t.number) where
      checked : after view_within.entry ≡ line_fault o (view_fault d)
      checked = within_fault view_kind o t read (view_fault d) after shape view_within

      pub view_out_of_turn : (t.number - 1 ≡ views → ⊥) → 3 ≡ line_fault o (view_fault d)
      unfolding view_kind after
      view_out_of_turn ne =
          let e = out_of_turn view_kind o t read view_within (length d.views) positive (λ q. ne (q ∙ sym count)) in
          rw e at checked

      -- what is left are the checks against the tables
      pub view_checked : t.number - 1 ≡ views → misfit d.widths [] view_within.entry.value ≡ line_fault o (view_fault d)
      unfolding view_kind after
      view_checked turn =
          let e = in_turn view_kind o t read view_within (length d.views) positive (turn ∙ count) in
          rw e at checked

-- ---- what the line declares

module _ (d : Declared) (l : List ℕ) (views : ℕ) (t : ViewLine) (count : views ≡ length d.views)
    (value : t ≡ view_value (view_line l)) where
  pub view_turned_back : (n : ℕ) → n ≡ line_fault (view_line l) (view_fault d) → (n ≡ 0 → ⊥) → enter view_block d l ≡ faulty n
  unfolding enter
  view_turned_back n e ne = faulty_entered (view_line l) (view_fault d) _ n e ne

  module _ (z : 0 ≡ line_fault (view_line l) (view_fault d)) where
    taken_view : Within view_kind (view_line l) t
    taken_view =
        taken view_kind (view_line l) t (read d (view_line l) views t count value) (view_fault d) (after d (view_line l) views t count value)
        (shape d (view_line l) views t count value) z

    -- the view
    pub new_view : Line
    new_view = taken_view.entry.value

    pub new_view_value : t.view ≡ good_value new_view.table new_view.columns
    unfolding new_view view_kind
    new_view_value = ap (λ (k : ViewLine). k.view) taken_view.line

    pub view_declared : enter view_block d l ≡ entered (more_views d new_view)
    unfolding enter more_views new_view taken_view
    view_declared =
        taken_entered view_kind (view_line l) t (read d (view_line l) views t count value) (view_fault d)
        (after d (view_line l) views t count value) (shape d (view_line l) views t count value) z (more_views d)
