-- What is written under the tables of a loaded policy: a rule, and all of them.
use Rattle.std.specs.Prelude.{◌≡◌, List, ℕ}
use Rattle.model.specs.Value.{tables_value}
use Rattle.model.specs.declared.Tables.{Tables}
use Rattle.import.specs.Translating.{Narrow}
use Rattle.writing.specs.Wrote.{Wrote}
use Rattle.mode_rules.specs.RulesPage.{rule_bytes, rules_in}

-- the tables have these columns, 1 to the most each
pub record Under (tables : Tables) : Type 0 where
  pub widths : List ℕ
  pub value : tables ≡ tables_value widths
  pub narrow : Narrow widths

-- rule k, of which so much is shown where it is turned back
abbrev pub RuleWritten : Tables → ℕ → (rule shown was : List ℕ) → ℕ → List ℕ → ℕ → Type 0
RuleWritten tables k rule shown was at is r = (u : Under tables) → Wrote was at (rule_bytes u.widths k rule shown) is r

-- the rules of a text, from the front of the buffer on
abbrev pub RulesWritten : Tables → (rules was is : List ℕ) → ℕ → Type 0
RulesWritten tables rules was is r = (u : Under tables) → Wrote was 0 (rules_in u.widths 1 rules) is r
