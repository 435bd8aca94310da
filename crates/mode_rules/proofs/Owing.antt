-- What importing owes for a rule wherever there is room: a refusal by small numbers, or a text no longer than the rule allows.
use mathlib.Core.Path.{◌≡◌, refl, ap}
use mathlib.Core.Bool.{Bool, true, false}
use mathlib.Core.Logic.{◌⊎◌, inl, inr}
use mathlib.Core.List.{List, ◌∷◌, ◌++◌}
use mathlib.Core.Option.{Option, none, some}
use Prim.Native.Nat.{ℕ, zero, suc, ◌+◌, ◌*◌, ◌≤◌}
use native.Mathlib.Omega.{arith}
use lib.Dec.{leb, leb→le, ltb}
use lib.ListN.{length}
use borrow.Author.Tests.{le-ltb}
use Rattle.theory.specs.Executable.Test.{all, any}
use Rattle.theory.proofs.Executable.Test.{all_iff}
use Rattle.model.proofs.FirstFault.{first_fault_lem}
use Rattle.query_text.specs.Text.{most_query_bytes}
use Rattle.query_text.specs.Print.{query_text}
use Rattle.rules.specs.Rule.{Rule}
use Rattle.rules.specs.Text.{rule_of}
use Rattle.rules.specs.Numbering.{query_of}
use Rattle.rules.specs.Checks.{body_checks, head_checks, rule_fault}
use Rattle.rules.proofs.Printed.{rule_reads_exactly}
use Rattle.import.specs.Translating.{Narrow}
use Rattle.import.specs.Import.{refusal, text, most_rule_bytes, owed_text, owed_for, owed_rule, owed}
use Rattle.import.specs.Outcomes.{import_numbers}
use Rattle.mode_rules.specs.Sizes.{each_byte}
use Rattle.mode_rules.proofs.Bound.{text_by_rule, text_by_limit}

-- turned back, whatever the room
pub record Turned (widths rule : List ℕ) : Type 0 where
  pub number : ℕ
  pub line : ℕ
  pub low : number ≤ 12
  pub first : line ≤ 1
  pub owes : (place room : ℕ) → owed widths rule place room ≡ refusal number line

-- taken, where the text has room
pub record Taken (widths rule : List ℕ) : Type 0 where
  pub bytes : List ℕ
  pub short : length bytes ≤ most_query_bytes
  pub few : length bytes ≤ each_byte * length rule
  pub owes : (place room : ℕ) → place + length bytes ≤ room → owed widths rule place room ≡ text bytes

fault_low : (widths : List ℕ) (x : Rule) → rule_fault widths x ≤ 12
unfolding rule_fault all any
fault_low widths x =
    leb→le (rule_fault widths x) 12
    ((all_iff (λ n. leb n 12) (0 ∷ import_numbers)).0 tt (rule_fault widths x)
    (first_fault_lem import_numbers (body_checks widths x.body (query_of x) ++ head_checks x) tt))

pub owing : (widths rule : List ℕ) → Narrow widths → Turned widths rule ⊎ Taken widths rule
unfolding owed owed_rule owed_for owed_text
owing widths rule narrow = by_length (ltb most_rule_bytes (length rule)) refl
  where
    taken : (x : Rule) → ltb most_rule_bytes (length rule) ≡ false → rule_of rule ≡ some x → rule_fault widths x ≡ 0 → Taken widths rule
    taken x q p f =
        let (formed, is) = (rule_reads_exactly rule x).0 p in
        let t = query_text (query_of x) in
        record {
          bytes = t;
          short = text_by_limit widths narrow x formed.nonempty f;
          few = omega (arith, text_by_rule widths narrow x formed.nonempty f, ap length is);
          owes = λ place room h. rw (q, p, f, le-ltb room (place + length t) h);
        }

    by_fault : (x : Rule) → ltb most_rule_bytes (length rule) ≡ false → rule_of rule ≡ some x → (n : ℕ) → rule_fault widths x ≡ n
        → Turned widths rule ⊎ Taken widths rule
    by_fault x q p zero f = inr (taken x q p f)
    by_fault x q p (suc n) f =
        inl (record {
          number = suc n;
          line = 1;
          low = omega (arith, f, fault_low widths x);
          first = omega arith;
          owes = λ place room. rw (q, p, f);
        })

    by_rule : ltb most_rule_bytes (length rule) ≡ false → (o : Option Rule) → rule_of rule ≡ o → Turned widths rule ⊎ Taken widths rule
    by_rule q none p =
        inl (record { number = 1; line = 1; low = omega arith; first = omega arith; owes = λ place room. rw (q, p) })
    by_rule q (some x) p = by_fault x q p (rule_fault widths x) refl

    by_length : (b : Bool) → ltb most_rule_bytes (length rule) ≡ b → Turned widths rule ⊎ Taken widths rule
    by_length true q = inl (record { number = 7; line = 0; low = omega arith; first = omega arith; owes = λ place room. rw q })
    by_length false q = by_rule q (rule_of rule) refl
