-- The checks of a table's line in the order of the code's tests.
use mathlib.Core.Path.{◌≡◌, refl, sym, ap, ◌∙◌}
use mathlib.Core.Bool.{Bool, true, false, cond, not, ◌&&◌}
use mathlib.Core.Option.{Option, none, some}
use Prim.Native.Nat.{ℕ, suc, ◌-◌, ◌≤◌}
use lib.Dec.{eqb}
use lib.ListN.{length}
use mathlib.Core.List.{List}
use Rattle.model.specs.Fields.{Numbered, table_line}
use Rattle.model.specs.Limits.{up_to, most_tables, most_columns}
use Rattle.model.specs.Checks.{first_fault}
use Rattle.model.specs.Value.{tables_value}
use Rattle.model.specs.declared.Tables.{Tables}
use Rattle.policy_text.specs.Text.{table_fault, faulty, entered, enter, tables as table_block}
use Rattle.policy_text.specs.Declared.{Declared}
use Rattle.policy_lines.specs.Value.{table_value, no_table}
use Rattle.policy_lines.specs.declared.TableLine.{TableLine}
use Rattle.load.specs.Steps.{line_fault, more_tables}
use Rattle.load.proofs.Lines.{Kind, Within, reading, within, malformed_fault, outside_fault, within_fault, in_turn, out_of_turn}
use Rattle.load.proofs.Lines.{taken, taken_entered, faulty_entered}

unfoldable pub table_kind : Kind ℕ TableLine
unfolding no_table
table_kind =
    record {
      ok = λ t. t.ok;
      outside = λ t. t.outside;
      number = λ t. t.number;
      no_more = no_table;
      good = λ e. record { ok = true; outside = false; number = e.number; columns = e.value };
      test = λ e. up_to most_tables e.number && up_to most_columns e.value;
      ok_no_more = λ b. refl;
      outside_no_more = λ b. refl;
      ok_good = λ e. refl;
      outside_good = λ e. refl;
      number_good = λ e. refl;
    }

pub table_reading : (o : Option (Numbered ℕ)) → table_value o ≡ reading table_kind o
unfolding table_value reading table_kind
table_reading none = refl
table_reading (some e) = refl

module _ (d : Declared) (o : Option (Numbered ℕ)) (tables : Tables) (t : TableLine) (known : tables ≡ tables_value d.widths)
    (value : t ≡ table_value o) where
  read : t ≡ reading table_kind o
  read = value ∙ table_reading o

  after : Numbered ℕ → ℕ
  after e = cond (not (eqb e.number (suc (length d.widths)))) 3 0

  shape : (e : Numbered ℕ) → table_fault d e ≡ cond (not (table_kind.test e)) 2 (after e)
  unfolding table_fault first_fault after table_kind
  shape e = refl

  count : tables.count ≡ length d.widths
  unfolding tables_value
  count = ap (λ (s : Tables). s.count) known

  pub table_malformed : t.ok ≡ false → 1 ≡ line_fault o (table_fault d)
  unfolding table_kind
  table_malformed h = malformed_fault table_kind o t read (table_fault d) after shape h

  pub table_outside : t.ok ≡ true → t.outside ≡ true → 2 ≡ line_fault o (table_fault d)
  unfolding table_kind
  table_outside h g = outside_fault table_kind o t read (table_fault d) after shape h g

  module _ (ok : t.ok ≡ true) (inside : t.outside ≡ false) (positive : 1 ≤ t.number) where
    pub table_within : Within table_kind o t
    unfolding table_kind
    table_within = within table_kind o t read ok inside

    pub table_out_of_turn : (t.number - 1 ≡ tables.count → ⊥) → 3 ≡ line_fault o (table_fault d)
    unfolding table_kind after
    table_out_of_turn ne =
        ap (λ (b : Bool). cond (not b) 3 0) (out_of_turn_path ne) ∙ within_fault table_kind o t read (table_fault d) after shape table_within
      where
        out_of_turn_path : (t.number - 1 ≡ tables.count → ⊥) → false ≡ eqb table_within.entry.number (suc (length d.widths))
        out_of_turn_path n = sym (out_of_turn table_kind o t read table_within (length d.widths) positive (λ q. n (q ∙ sym count)))

    pub table_taken : t.number - 1 ≡ tables.count → 0 ≡ line_fault o (table_fault d)
    unfolding table_kind after
    table_taken e =
        ap (λ (b : Bool). cond (not b) 3 0) (sym (in_turn table_kind o t read table_within (length d.widths) positive (e ∙ count)))
        ∙ within_fault table_kind o t read (table_fault d) after shape table_within

-- ---- what the line declares

module _ (d : Declared) (l : List ℕ) (tables : Tables) (t : TableLine) (known : tables ≡ tables_value d.widths)
    (value : t ≡ table_value (table_line l)) where
  pub table_turned_back : (n : ℕ) → n ≡ line_fault (table_line l) (table_fault d) → (n ≡ 0 → ⊥) → enter table_block d l ≡ faulty n
  unfolding enter
  table_turned_back n e ne = faulty_entered (table_line l) (table_fault d) _ n e ne

  pub table_declared : 0 ≡ line_fault (table_line l) (table_fault d) → enter table_block d l ≡ entered (more_tables d t.columns)
  unfolding enter more_tables table_kind
  table_declared z =
      let o = table_line l in
      let r = read d o tables t known value in
      let f = after d o tables t known value in
      let s = shape d o tables t known value in
      let w = taken table_kind o t r (table_fault d) f s z in
      taken_entered table_kind o t r (table_fault d) f s z (more_tables d)
      ∙ ap (λ (w : ℕ). entered (more_tables d w)) (sym (ap (λ (k : TableLine). k.columns) w.line))
