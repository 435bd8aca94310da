-- What a call of importing owes, told apart: a refusal, or the text of a rule without fault; and what follows over archives.
use mathlib.Core.Path.{◌≡◌, refl, sym, ap, subst, ◌∙◌}
use mathlib.Core.Bool.{Bool, true, false, cond}
use mathlib.Core.Logic.{◌⊎◌, inl, inr, ⊎_elim}
use mathlib.Core.List.{List, [], ◌∷◌, ◌++◌, List-discrete}
use mathlib.Core.Option.{Option, none, some}
use Prim.Native.Nat.{ℕ, zero, suc, ◌+◌, ◌≤◌}
use native.Mathlib.Decide.{ℕ_discrete, dec_le, map_dec}
use native.Mathlib.Omega.{arith}
use lib.Dec.{ltb}
use lib.ListN.{length, get_or, take, drop}
use borrow.Author.Tests.{ltb-false}
use Rattle.std.specs.Prelude.{Result, Ok, Err}
use Rattle.theory.specs.Query.{◌∈◌}
use Rattle.theory.specs.Executable.Test.{all, any}
use Rattle.theory.proofs.Pigeonhole.{member}
use Rattle.model.specs.declared.Policy.{Policy}
use Rattle.model.specs.declared.Refusal.{Refusal}
use Rattle.model.proofs.FirstFault.{found_in, first_fault_lem, a_fault}
use Rattle.query_text.specs.Text.{most_query_bytes}
use Rattle.query_text.specs.Print.{query_text}
use Rattle.policy_text.proofs.Loaded.{loaded_well_formed}
use Rattle.validity.specs.Loadable.{Loadable}
use Rattle.rules.specs.Rule.{Rule}
use Rattle.rules.specs.Text.{rule_of}
use Rattle.rules.specs.Numbering.{query_of}
use Rattle.rules.specs.Checks.{body_checks, head_checks, rule_fault}
use Rattle.rules.proofs.Answers.{imported_answers}
use Rattle.rules.proofs.Printed.{rule_reads_exactly}
use Rattle.rules.proofs.Shown.{numbers_apart, head_shown}
use Rattle.rules.proofs.WellRead.{rule_well_read, rule_text_reads}
use Rattle.desk.proofs.Unique.{either_way, both?, one_refusal}
use Rattle.import.specs.Translating.{Narrow}
use Rattle.import.specs.Import.{Word, says_written, says_refused, SaidImport, said_written, said_refused, said_import}
use Rattle.import.specs.Import.{Owed, refusal, text, most_rule_bytes, owed_text, owed_for, owed_rule, owed, placed, Gives, ImportGiven}
use Rattle.import.specs.Outcomes.{import_numbers, bytes_at, TextMeans, Outcomes}
use Rattle.import.proofs.Placed.{placed_bytes, placed_front, placed_rest, placed_long}

-- ---- the two cases

-- turned back by one of the numbers, and the buffer stays
record Turned (r : Result ℕ Refusal) (before after : List ℕ) : Type 0 where
  number : ℕ
  line : ℕ
  listed : number ∈ import_numbers
  said : said_import r ≡ said_refused number line
  stays : after ≡ before

-- the text of a rule without fault is written
record Done (widths rule : List ℕ) (place : ℕ) (r : Result ℕ Refusal) (before after : List ℕ) : Type 0 where
  is : Rule
  parses : rule_of rule ≡ some is
  clear : rule_fault widths is ≡ 0
  room : place + length (query_text (query_of is)) ≤ length before
  said : said_import r ≡ said_written (length (query_text (query_of is)))
  holds : after ≡ placed place (query_text (query_of is)) before

-- a fault is one of the numbers
fault_listed : (widths : List ℕ) (x : Rule) (n : ℕ) → rule_fault widths x ≡ suc n → suc n ∈ import_numbers
unfolding rule_fault all any
fault_listed widths x n e =
    a_fault import_numbers n
    (subst (λ (k : ℕ). k ∈ 0 ∷ import_numbers) e
    (first_fault_lem import_numbers (body_checks widths x.body (query_of x) ++ head_checks x) tt))

module _ (widths rule : List ℕ) (place : ℕ) (r : Result ℕ Refusal) (before after : List ℕ) where
  abbrev Told : Type 0
  Told = Turned r before after ⊎ Done widths rule place r before after

  turned : (n k : ℕ) → n ∈ import_numbers → Gives place r before after (refusal n k) → Told
  turned n k m g = inl (record { number = n; line = k; listed = m; said = g.0; stays = g.1 })

  told : Gives place r before after (owed widths rule place (length before)) → Told
  unfolding owed owed_rule owed_for owed_text any
  told g = by_length (ltb most_rule_bytes (length rule)) g
    where
      by_room : (x : Rule) → rule_of rule ≡ some x → rule_fault widths x ≡ 0 → (b : Bool)
          → ltb (length before) (place + length (query_text (query_of x))) ≡ b
          → Gives place r before after (cond b (refusal 10 0) (text (query_text (query_of x)))) → Told
      by_room x p f true q g = turned 10 0 (found_in import_numbers 10 tt) g
      by_room x p f false q g =
          inr (record { is = x; parses = p; clear = f; room = ltb-false (length before) _ q; said = g.0; holds = g.1 })

      by_fault : (x : Rule) → rule_of rule ≡ some x → (n : ℕ) → rule_fault widths x ≡ n
          → Gives place r before after (owed_for n (owed_text place (length before) (query_text (query_of x)))) → Told
      by_fault x p zero f g = by_room x p f (ltb (length before) (place + length (query_text (query_of x)))) refl g
      by_fault x p (suc n) f g = turned (suc n) 1 (fault_listed widths x n f) g

      by_rule : (o : Option Rule) → rule_of rule ≡ o → Gives place r before after (owed_rule widths place (length before) o) → Told
      by_rule none p g = turned 1 1 (found_in import_numbers 1 tt) g
      by_rule (some x) p g = by_fault x p (rule_fault widths x) refl g

      by_length : (b : Bool)
          → Gives place r before after (cond b (refusal 7 0) (owed_rule widths place (length before) (rule_of rule))) → Told
      by_length true g = turned 7 0 (found_in import_numbers 7 tt) g
      by_length false g = by_rule (rule_of rule) refl g

-- ---- what the two cases say

word_number : Word → ℕ
word_number says_written = 0
word_number says_refused = 1

written≢refused : says_written ≡ says_refused → ⊥
unfolding word_number
written≢refused e = omega (arith, ap word_number e)

-- a reply as a list of numbers, which tells replies apart
code : Result ℕ Refusal → List ℕ
code (Ok n) = 0 ∷ n ∷ []
code (Err d) = 1 ∷ d.number ∷ d.line ∷ []

code_one : (r t : Result ℕ Refusal) → code r ≡ code t → r ≡ t
unfolding code
code_one (Ok n) (Ok m) e = cc
code_one (Ok n) (Err d) e = absurd (omega (arith, ap (λ (l : List ℕ). get_or l 0 0) e))
code_one (Err d) (Ok n) e = absurd (omega (arith, ap (λ (l : List ℕ). get_or l 0 0) e))
code_one (Err c) (Err d) e = ap Err (one_refusal (ap (λ (l : List ℕ). get_or l 1 0) e) (ap (λ (l : List ℕ). get_or l 2 0) e))

said_one : (r t : Result ℕ Refusal) → said_import r ≡ said_import t → r ≡ t
unfolding said_import
said_one (Ok n) (Ok m) e = ap Ok (ap (λ (s : SaidImport). s.bytes) e)
said_one (Ok n) (Err d) e = absurd (written≢refused (ap (λ (s : SaidImport). s.word) e))
said_one (Err d) (Ok n) e = absurd (written≢refused (sym (ap (λ (s : SaidImport). s.word) e)))
said_one (Err c) (Err d) e = ap Err (one_refusal (ap (λ (s : SaidImport). s.number) e) (ap (λ (s : SaidImport). s.line) e))

same? : (r t : Result ℕ Refusal) → Dec (r ≡ t)
same? r t = map_dec (code_one r t) (ap code) (List-discrete ℕ_discrete (code r) (code t))

module _ (place : ℕ) (before : List ℕ) (r t : Result ℕ Refusal) {after then : List ℕ} where
  one_given : (o : Owed) → Gives place r before after o → Gives place t before then o → (r ≡ t) × (after ≡ then)
  one_given (refusal n k) g h = (said_one r t (g.0 ∙ sym h.0), g.1 ∙ sym h.1)
  one_given (text l) g h = (said_one r t (g.0 ∙ sym h.0), g.1 ∙ sym h.1)

-- ---- what holds of a call

module _ (p : Policy) (rule : List ℕ) (place : ℕ) (before : List ℕ) (r : Result ℕ Refusal) (after : List ℕ) where
  narrow : (l : Loadable p) → Narrow l.declared.widths
  narrow l = (loaded_well_formed l.text l.declared l.loads).tables.each

  -- what holds in both cases, whatever text loads to the policy, holds
  by_case : {A : Type 0} → Dec A → (Turned r before after → A)
      → ((l : Loadable p) → Done l.declared.widths rule place r before after → A)
      → ImportGiven p rule place before r after → A
  unfolding any
  by_case a f g h =
      either_way {L = Loadable p} a (λ l. ⊎_elim f (g l) (told l.declared.widths rule place r before after (h.loaded l)))
      (λ n. f (record { number = 8; line = 0; listed = found_in import_numbers 8 tt; said = (h.unloaded n).0; stays = (h.unloaded n).1 }))

  bytes_of : (w : SaidImport) → said_import r ≡ w → (said_import r).bytes ≡ w.bytes
  bytes_of w e = ap (λ (s : SaidImport). s.bytes) e

  means : (l : Loadable p) → Done l.declared.widths rule place r before after
      → TextMeans l.declared.widths rule (bytes_at place (said_import r).bytes after)
  means l d =
      let x = d.is in
      let t = query_text (query_of x) in
      let formed = ((rule_reads_exactly rule x).0 d.parses).0 in
      let same : bytes_at place (said_import r).bytes after ≡ t =
      rw (bytes_of (said_written (length t)) d.said, d.holds) (placed_bytes place t before d.room) in
      record {
        the_rule = x;
        parses = d.parses;
        query = query_of x;
        reads = rw same (rule_text_reads l.declared.widths (narrow l) x formed.nonempty d.clear);
        shows = head_shown l.declared.widths x d.clear;
        apart = numbers_apart l.declared.widths x d.clear;
        answers = imported_answers x;
      }

  short : (l : Loadable p) → Done l.declared.widths rule place r before after → (said_import r).bytes ≤ most_query_bytes
  short l d =
      let formed = ((rule_reads_exactly rule d.is).0 d.parses).0 in
      let well = rule_well_read l.declared.widths (narrow l) d.is formed.nonempty d.clear in
      omega (arith, bytes_of _ d.said, well.short)

  -- the word tells the cases apart
  done_word : {widths : List ℕ} → Done widths rule place r before after → (said_import r).word ≡ says_written
  done_word d = ap (λ (s : SaidImport). s.word) d.said

  turned_word : Turned r before after → (said_import r).word ≡ says_refused
  turned_word d = ap (λ (s : SaidImport). s.word) d.said

  turned_bytes : Turned r before after → (said_import r).bytes ≡ 0
  turned_bytes d = bytes_of (said_refused d.number d.line) d.said

  turned_numbers : Turned r before after → ((said_import r).number ∈ import_numbers) × ((said_import r).bytes ≡ 0) × (after ≡ before)
  turned_numbers d = (
    subst (λ (n : ℕ). n ∈ import_numbers) (sym (ap (λ (s : SaidImport). s.number) d.said)) d.listed,
    turned_bytes d,
    d.stays,
  )

  abbrev Stay : Type 0
  Stay =
      (length after ≡ length before) × (take place after ≡ take place before)
      × (drop (place + (said_import r).bytes) after ≡ drop (place + (said_import r).bytes) before)

  turned_stays : Turned r before after → Stay
  turned_stays d = rw d.stays (refl, refl, refl)

  done_stays : {widths : List ℕ} → Done widths rule place r before after → Stay
  done_stays d =
      let t = query_text (query_of d.is) in
      rw (bytes_of (said_written (length t)) d.said, d.holds)
      (placed_long place t before d.room, placed_front place t before d.room, placed_rest place t before d.room)

-- ---- all of it

pub outcomes : Outcomes
outcomes = record {
  one_outcome = λ p rule place before r t after then g h.
      either_way {L = Loadable p} (both? (same? r t) (List-discrete ℕ_discrete after then))
      (λ l. one_given place before r t (owed l.declared.widths rule place (length before)) (g.loaded l) (h.loaded l))
      (λ f. one_given place before r t (refusal 8 0) (g.unloaded f) (h.unloaded f));
  imported = λ p l rule place before r after g e.
      ⊎_elim (λ d. absurd (written≢refused (sym e ∙ turned_word p rule place before r after d))) (means p rule place before r after l)
      (told l.declared.widths rule place r before after (g.loaded l));
  import_short = λ p rule place before r after g.
      by_case p rule place before r after (dec_le (said_import r).bytes most_query_bytes)
      (λ d. omega (arith, turned_bytes p rule place before r after d))
      (short p rule place before r after) g;
  import_numbers_lem = λ p rule place before r after g e.
      by_case p rule place before r after
      (three? (member ℕ_discrete (said_import r).number import_numbers) (ℕ_discrete (said_import r).bytes 0)
      (List-discrete ℕ_discrete after before))
      (turned_numbers p rule place before r after)
      (λ l d. absurd (written≢refused (sym (done_word p rule place before r after d) ∙ e))) g;
  others_stay = λ p rule place before r after g.
      by_case p rule place before r after
      (three? (ℕ_discrete (length after) (length before)) (List-discrete ℕ_discrete (take place after) (take place before))
      (List-discrete ℕ_discrete (drop (place + (said_import r).bytes) after) (drop (place + (said_import r).bytes) before)))
      (turned_stays p rule place before r after) (λ l. done_stays p rule place before r after) g;
}
  where
    three? : {A B C : Type 0} → Dec A → Dec B → Dec C → Dec (A × B × C)
    three? (yes a) (yes b) (yes c) = yes (a, b, c)
    three? (yes a) (yes b) (no n) = no (λ x. n x.2)
    three? (yes a) (no n) c = no (λ x. n x.1)
    three? (no n) b c = no (λ x. n x.0)
