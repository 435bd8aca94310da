-- What turns back a line within its limits, by the checks on the way.
use mathlib.Core.Path.{◌≡◌, refl, sym, ap, ◌∙◌}
use mathlib.Core.Bool.{Bool, true, false, ◌||◌, cond, not}
use mathlib.Core.List.{List, [], ◌∷◌}
use Prim.Native.Nat.{ℕ, ◌-◌, ◌≤◌, ◌<◌}
use native.Mathlib.Omega.{arith}
use lib.Bits.{bit_or}
use lib.ListN.{length, get_or}
use borrow.Author.Tests.{le-leb, lt-leb, eq-eqb, ne_eqb}
use Rattle.theory.specs.Query.{Line}
use Rattle.theory.specs.Executable.Test.{all}
use Rattle.words.specs.Sets.{meet}
use Rattle.words.proofs.Answers.{true_holds}
use Rattle.model.specs.Limits.{most_tables, line_within}
use Rattle.model.specs.Checks.{known, wide, clashing, Check, first_fault, fitting_table, misfit}
use Rattle.model.specs.LineChecked.{ColumnsChecked}
use Rattle.model.specs.Value.{tables_value}
use Rattle.model.specs.Parsed.{good_value}
use Rattle.model.specs.Variables.{Marked}
use Rattle.model.specs.declared.Tables.{Tables}
use Rattle.model.specs.declared.Parsed.{Parsed}
use Rattle.model.proofs.FirstFault.{fault_before, fault_behind}
use Rattle.model.proofs.Pad.{pad_get}
use Rattle.model.proofs.Variables.{clash_words}

-- ---- the table

checks : (declared columns : Bool) → ℕ
checks declared columns = cond (not declared) 4 (cond (not columns) 5 0)

module _ (widths : List ℕ) (A : Line) where
  in_order : (declared columns : Bool) → known widths A ≡ declared → wide widths A ≡ columns
      → checks declared columns ≡ first_fault (fitting_table widths A)
  unfolding checks first_fault
  in_order declared columns k w = rw (k, w)

module _ (widths : List ℕ) (A : Line) (tables : Tables) (table count : ℕ) (held : tables ≡ tables_value widths)
    (same_table : table ≡ A.table) (same_count : count ≡ length A.columns) where
  same_tables : tables.count ≡ length widths
  unfolding tables_value
  same_tables = ap (λ (x : Tables). x.count) held

  pub unknown_table : tables.count < table → 4 ≡ first_fault (fitting_table widths A)
  unfolding known checks
  unknown_table l =
      in_order widths A false (wide widths A) (lt-leb A.table (length widths) (omega (arith, same_table, same_tables))) refl

  module _ (l : table ≤ tables.count) where
    declared : known widths A ≡ true
    unfolding known
    declared = le-leb A.table (length widths) (omega (arith, same_table, same_tables))

    same_columns : get_or tables.columns (table - 1) 0 ≡ get_or widths (A.table - 1) 0
    unfolding tables_value
    same_columns = rw (held, same_table) (pad_get most_tables 0 widths (A.table - 1))

    pub wrong_width : (get_or tables.columns (table - 1) 0 ≡ count → ⊥) → 5 ≡ first_fault (fitting_table widths A)
    unfolding wide checks
    wrong_width f =
        in_order widths A true false declared
        (ne_eqb (length A.columns) (get_or widths (A.table - 1) 0) (λ e. f (same_columns ∙ sym e ∙ sym same_count)))

    pub right_width : get_or tables.columns (table - 1) 0 ≡ count → 0 ≡ first_fault (fitting_table widths A)
    unfolding wide checks
    right_width e =
        in_order widths A true true declared
        (eq-eqb (length A.columns) (get_or widths (A.table - 1) 0) (sym same_count ∙ sym e ∙ same_columns))

-- ---- the line

-- the check behind those of the table
abbrev last : List Line → Line → List Check
last earlier A = record { broken = clashing earlier A; number = 6 } ∷ []

module _ {tables : Tables} {s h : ℕ} {p : Parsed} {f : ℕ} (checked : ColumnsChecked tables p.table p.count f)
    (widths : List ℕ) (earlier : List Line) (A : Line) (held : tables ≡ tables_value widths) (marked : Marked earlier s h)
    (within : line_within A ≡ true) (good : p ≡ good_value A.table A.columns) where
  columns : f ≡ first_fault (fitting_table widths A)
  unfolding good_value
  columns = checked widths A held (ap (λ (x : Parsed). x.table) good) (ap (λ (x : Parsed). x.count) good)

  pub columns_fault : (f ≡ 0 → ⊥) → f ≡ misfit widths earlier A
  unfolding misfit
  columns_fault n = columns ∙ fault_before (fitting_table widths A) (last earlier A) (λ e. n (columns ∙ e))

  module _ (fits : f ≡ 0) where
    words : (meet 64 p.shown (bit_or h p.hidden) || meet 64 p.hidden (bit_or s p.shown)) ≡ clashing earlier A
    unfolding good_value
    words = rw good (clash_words earlier A (true_holds within) s h marked)

    by_clash : (b : Bool) → b ≡ clashing earlier A → cond b 6 0 ≡ misfit widths earlier A
    unfolding misfit first_fault all
    by_clash b c =
        ap (λ (t : Bool). cond t 6 0) c
        ∙ fault_behind (fitting_table widths A) (last earlier A) tt (sym columns ∙ fits)

    pub shown_clashes : meet 64 p.shown (bit_or h p.hidden) ≡ true → 6 ≡ misfit widths earlier A
    shown_clashes t = by_clash true (rw t at words)

    module _ (n : meet 64 p.shown (bit_or h p.hidden) ≡ false) where
      pub hidden_clashes : meet 64 p.hidden (bit_or s p.shown) ≡ true → 6 ≡ misfit widths earlier A
      hidden_clashes t = by_clash true (rw (n, t) at words)

      pub fitting : meet 64 p.hidden (bit_or s p.shown) ≡ false → 0 ≡ misfit widths earlier A
      fitting t = by_clash false (rw (n, t) at words)
