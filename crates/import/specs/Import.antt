-- Request 3, "Turn such a rule into a query text": the contract of `import_rule`.
use Rattle.std.specs.Prelude.{◌≡◌, cond, List, ◌++◌, ℕ, zero, suc, ◌+◌, ltb, length, take, drop, Result, Ok, Err}
use Rattle.std.proofs.Math.Option.{Option, none, some}
use Rattle.model.specs.Value.{tables_value}
use Rattle.model.specs.declared.Tables.{Tables}
use Rattle.model.specs.declared.Policy.{Policy}
use Rattle.model.specs.declared.Refusal.{Refusal}
use Rattle.query_text.specs.Print.{query_text}
use Rattle.validity.specs.Loadable.{Loadable}
use Rattle.rules.specs.Rule.{Rule}
use Rattle.rules.specs.Text.{rule_of}
use Rattle.rules.specs.Numbering.{query_of}
use Rattle.rules.specs.Checks.{rule_fault}
use Rattle.import.specs.Translating.{Narrow}

-- ---- the reply

pub data Word : Type 0 where
  says_written : Word
  says_refused : Word

-- what the reply says: its word, "the number of bytes written", the refusal's number and its line
pub record SaidImport : Type 0 where
  pub word : Word
  pub bytes : ℕ
  pub number : ℕ
  pub line : ℕ

-- "The reply carries the number of bytes written"
abbrev pub said_written : ℕ → SaidImport
said_written n = record { word = says_written; bytes = n; number = 0; line = 0 }

-- document 01, "a count in the reply is 0"
abbrev pub said_refused : (number line : ℕ) → SaidImport
said_refused n k = record { word = says_refused; bytes = 0; number = n; line = k }

-- of each case of the reply
unfoldable pub said_import : Result ℕ Refusal → SaidImport
said_import (Ok n) = said_written n
said_import (Err e) = said_refused e.number e.line

-- ---- what a call owes

-- a refusal, or a text to be written
pub data Owed : Type 0 where
  refusal : (number line : ℕ) → Owed
  text : List ℕ → Owed

-- "a rule over 4,096 bytes 7 at line 0"
abbrev pub most_rule_bytes : ℕ
most_rule_bytes = 4096

-- "10 comes last, met by a place past the buffer or too few bytes after it"
unfoldable pub owed_text : (place room : ℕ) → List ℕ → Owed
owed_text place room t = cond (ltb room (place + length t)) (refusal 10 0) (text t)

-- a fault at line 1, or the rule's query as a text
unfoldable pub owed_for : ℕ → Owed → Owed
owed_for zero next = next
owed_for (suc n) next = refusal (suc n) 1

-- "Shape, limits … and table checks use 1, 7, 2, 4 and 5 at line 1", "11 … and 12 … both at line 1, after 5 and in that order"
unfoldable pub owed_rule : List ℕ → (place room : ℕ) → Option Rule → Owed
unfolding owed_for owed_text rule_fault query_text query_of
owed_rule widths place room none = refusal 1 1
owed_rule widths place room (some r) = owed_for (rule_fault widths r) (owed_text place room (query_text (query_of r)))

unfoldable pub owed : List ℕ → List ℕ → (place room : ℕ) → Owed
unfolding owed_rule rule_of
owed widths rule place room = cond (ltb most_rule_bytes (length rule)) (refusal 7 0) (owed_rule widths place room (rule_of rule))

-- ---- what the reply says and the buffer holds then

-- "written behind the text already in the lent buffer, from a place given with the call … all other bytes stay"
abbrev pub placed : ℕ → List ℕ → List ℕ → List ℕ
placed place t buffer = take place buffer ++ t ++ drop (place + length t) buffer

-- for both: what the reply says, and the buffer before and after the call
abbrev pub Gives : ℕ → Result ℕ Refusal → (before after : List ℕ) → Owed → Type 0
Gives place r before after (refusal number line) = (said_import r ≡ said_refused number line) × (after ≡ before)
Gives place r before after (text t) = (said_import r ≡ said_written (length t)) × (after ≡ placed place t before)

-- a text that is to be written
abbrev pub TextGiven : List ℕ → ℕ → List ℕ → Result ℕ Refusal → List ℕ → Type 0
TextGiven t place before r after = Gives place r before after (owed_text place (length before) t)

-- a rule under tables that were checked: each has 1 to the most columns
abbrev pub RuleGiven : Tables → List ℕ → ℕ → List ℕ → Result ℕ Refusal → List ℕ → Type 0
RuleGiven tables rule place before r after =
    (widths : List ℕ) → tables ≡ tables_value widths → Narrow widths → Gives place r before after (owed widths rule place (length before))

-- "A policy no loading gives meets 8 first"
pub record ImportGiven (p : Policy) (rule : List ℕ) (place : ℕ) (before : List ℕ) (r : Result ℕ Refusal) (after : List ℕ) : Type 0 where
  pub unloaded : (Loadable p → ⊥) → Gives place r before after (refusal 8 0)
  pub loaded : (l : Loadable p) → Gives place r before after (owed l.declared.widths rule place (length before))
