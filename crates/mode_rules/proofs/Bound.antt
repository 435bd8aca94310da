-- How long a rule's bytes on the page are, by the length of the rule: a rule that is taken is its own print, and each of its atoms has
-- enough bytes for its line of the query text.
use mathlib.Core.Path.{◌≡◌}
use mathlib.Core.List.{List, [], ◌∷◌, map}
use Prim.Native.Nat.{ℕ, suc, ◌+◌, ◌*◌, ◌≤◌, ◌<◌}
use native.Mathlib.Omega.{arith}
use lib.Dec.{T}
use lib.ListN.{length, length-append, length-map}
use Rattle.theory.specs.Query.{Line, ◌∈◌}
use Rattle.text.specs.Names.{bytes, table_terms}
use Rattle.text.specs.Print.{decimal, end_each}
use Rattle.text.proofs.Decimals.{length_iff, some_digit}
use Rattle.text.proofs.Each.{each_map}
use Rattle.text.proofs.Joined.{Within, length_ended}
use Rattle.model.specs.Limits.{most_columns, up_to}
use Rattle.model.specs.Print.{print_query_line}
use Rattle.model.proofs.Limits.{up_to_iff}
use Rattle.model.proofs.Values.{width_is}
use Rattle.model.proofs.Printed.{query_line_bytes, within_writable, query_line_short}
use Rattle.query_text.specs.Text.{most_query_bytes}
use Rattle.query_text.specs.Print.{query_text}
use Rattle.query_text.specs.WellRead.{WellRead}
use Rattle.rules.specs.Rule.{Atom, Rule}
use Rattle.rules.specs.Print.{listed, arg_text, atom_text, rule_text}
use Rattle.rules.specs.Numbering.{term_of, line_of, query_of}
use Rattle.rules.specs.Checks.{rule_fault}
use Rattle.rules.proofs.WellRead.{rule_well_read}
use Rattle.page.specs.Refusal.{indented}
use Rattle.import.specs.Translating.{Narrow}
use Rattle.mode_rules.specs.Sizes.{each_byte}
use Rattle.mode_rules.specs.RulesPage.{rule_refused}

-- ---- the rule

-- a letter, a digit and two brackets at least
atom_long : (a : Atom) → 4 ≤ length (atom_text a)
unfolding atom_text bytes
atom_long a =
    let d = decimal a.table in
    let l = listed (map arg_text a.args) in
    simp length-append (omega (arith, some_digit a.table))

-- and a comma and a space behind each but the last
atoms_long : (l : List Atom) → 6 * length l ≤ length (listed (map atom_text l)) + 2
unfolding listed bytes
atoms_long [] = omega arith
atoms_long (a ∷ []) = omega (arith, atom_long a)
atoms_long (a ∷ b ∷ l) = simp length-append (omega (arith, atom_long a, atoms_long (b ∷ l)))

rule_long : (r : Rule) → 6 * length r.body + 5 ≤ length (rule_text r)
unfolding rule_text bytes
rule_long r = simp length-append (omega (arith, atoms_long r.body))

-- ---- its text

module _ (widths : List ℕ) (narrow : Narrow widths) (r : Rule) (nonempty : 1 ≤ length r.body) (clear : rule_fault widths r ≡ 0) where
  well : WellRead widths (query_of r)
  well = rule_well_read widths narrow r nonempty clear

  line_short : (A : Line) → A ∈ query_of r → Within query_line_bytes (print_query_line A)
  line_short A m =
      query_line_short A (within_writable A (well.within A m))
      ((up_to_iff most_columns (length A.columns)).0 (width_is (λ n. T (up_to most_columns n)) widths narrow A (well.fits A m))).1

  atoms : length (query_of r) ≡ length r.body
  unfolding query_of
  atoms = length-map r.body (line_of (term_of r))

  text_short : length (query_text (query_of r)) ≤ 12 + length r.body * suc query_line_bytes
  unfolding query_text end_each table_terms bytes
  text_short =
      let each = each_map (Within query_line_bytes) print_query_line (query_of r) line_short in
      let all = rw (length-map (query_of r) print_query_line) at (length_ended query_line_bytes (map print_query_line (query_of r)) each) in
      omega (arith, all, atoms)

  pub text_by_rule : length (query_text (query_of r)) ≤ each_byte * length (rule_text r)
  text_by_rule = omega (arith, text_short, rule_long r, well.few, atoms)

  pub text_by_limit : length (query_text (query_of r)) ≤ most_query_bytes
  text_by_limit = well.short

-- ---- a refusal

pub refused_short : (k : ℕ) (shown : List ℕ) (number line : ℕ) → k < 100000 → number < 100 → line < 10
    → length (rule_refused k shown number line) ≤ length shown + 27
unfolding rule_refused bytes indented
refused_short k shown number line h i j =
    let a = (length_iff 4 k).0 h in
    let b = (length_iff 1 number).0 i in
    let c = (length_iff 0 line).0 j in
    simp length-append (omega (arith, a, b, c))
