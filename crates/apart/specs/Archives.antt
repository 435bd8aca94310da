-- Request 1, "Two archives behind a no": the contract of `tell_apart`.
use Rattle.std.specs.Prelude.{◌≡◌, cond, List, [], ◌∷◌, ℕ, ◌+◌, ◌-◌, ◌*◌, ◌≤◌, ltb, length, get_or, Result, Ok, Err}
use Rattle.theory.specs.Query.{Query}
use Rattle.theory.specs.Archive.{Row}
use Rattle.theory.specs.Apart.{TellsApart}
use Rattle.theory.specs.Executable.Label.{labels}
use Rattle.model.specs.Limits.{most_lines, up_to}
use Rattle.model.specs.declared.Policy.{Policy}
use Rattle.model.specs.declared.Refusal.{Refusal}
use Rattle.query_text.specs.Text.{Reading, refused, accepted, read}
use Rattle.policy_text.specs.Declared.{Declared, Grants}
use Rattle.policy_text.specs.Policy.{views_word}
use Rattle.validity.specs.Loadable.{Loadable}
use Rattle.labelling.specs.Settled.{settled}
use Rattle.freezing.specs.Cells.{row_cells, all_cells}
use Rattle.label_lists.specs.Buffer.{headed}
use Rattle.apart.specs.declared.telling.Telling.{Telling}
use Rattle.apart.specs.declared.telling.Telling.TheVariants.{Settled, Apart}

-- ---- the reply

-- "the reply `settled`", rows, or a refusal
pub data Word : Type 0 where
  says_settled : Word
  says_apart : Word
  says_refused : Word

-- what the reply says: its word, "the number of rows", the refusal's number and its line
pub record SaidTelling : Type 0 where
  pub word : Word
  pub count : ℕ
  pub number : ℕ
  pub line : ℕ

-- "`settled` and no row"
abbrev pub said_settled : SaidTelling
said_settled = record { word = says_settled; count = 0; number = 0; line = 0 }

-- "the reply carries the number of rows"
abbrev pub said_rows : ℕ → SaidTelling
said_rows n = record { word = says_apart; count = n; number = 0; line = 0 }

-- document 01, "a count in the reply is 0"
abbrev pub said_refused : (number line : ℕ) → SaidTelling
said_refused n k = record { word = says_refused; count = 0; number = n; line = k }

-- of each case of the reply
unfoldable pub said_telling : Result Telling Refusal → SaidTelling
said_telling (Ok Settled) = said_settled
said_telling (Ok (Apart n)) = said_rows n
said_telling (Err e) = said_refused e.number e.line

-- ---- what a call owes

-- a refusal, `settled`, or two archives for the query as handed in
pub data Owed : Type 0 where
  refusal : (number line : ℕ) → Owed
  settlement : Owed
  archives : Query → Owed

-- "at most 40 rows are given: eight lines and one row for each of at most 32 views"
abbrev pub most_rows : ℕ
most_rows = most_lines + 32

-- "under 360 numbers": room for these rows
abbrev pub most_cells : ℕ
most_cells = most_rows * row_cells

-- "10 is met by a buffer of under 360 numbers, settled or not"; "A partition that settles the query gives the reply `settled`", where
-- settling is document 01's, by labels; `settled_exactly` (Outcomes) says what it is over archives
unfoldable pub owed_for : Declared → ℕ → ℕ → Reading → Owed
unfolding settled labels views_word
owed_for d n room (refused k line) = refusal k line
owed_for d n room (accepted Q) =
    cond (ltb room most_cells) (refusal 10 0)
    (cond (settled (views_word (get_or d.partitions (n - 1) [])) (labels d.views Q)) settlement (archives Q))

-- "Checks and numbers are as for explaining": 4 at line 0, then the text, then 10
unfoldable pub owed : Declared → ℕ → List ℕ → ℕ → Owed
unfolding owed_for up_to read
owed d n text room = cond (up_to (length d.partitions) n) (owed_for d n room (read d.widths text)) (refusal 4 0)

-- ---- what the reply says and the buffer holds then

-- "On any refusal … lent buffers stay", and "no row": nothing is written
pub record Stays (r : Result Telling Refusal) (said : SaidTelling) (before after : List ℕ) : Type 0 where
  pub reply : said_telling r ≡ said
  pub buffer : after ≡ before

-- "The odd row comes first … the number of rows, and at most 40 rows are given", "cells past the last row stay": rows on which the views of
-- the partition at place i, counted from 0, agree whether the odd row is there or not, and the query does not
pub record ToldApart (d : Declared) (i : ℕ) (Q : Query) (count : ℕ) (before after : List ℕ) : Type 0 where
  pub odd : Row
  pub others : List Row
  pub many : count ≡ length (odd ∷ others)
  pub few : count ≤ most_rows
  pub buffer : after ≡ headed (all_cells (odd ∷ others)) before
  pub apart : TellsApart d.widths (Grants d i) Q odd others

-- for each of the three: what the reply says, and the buffer before and after the call
abbrev pub Gives : Declared → ℕ → Result Telling Refusal → (before after : List ℕ) → Owed → Type 0
Gives d i r before after (refusal number line) = Stays r (said_refused number line) before after
Gives d i r before after settlement = Stays r said_settled before after
Gives d i r before after (archives Q) = (count : ℕ) × (said_telling r ≡ said_rows count) × ToldApart d i Q count before after

-- a call for partition n, counted from 1, with a buffer as it was before and is after
pub record ArchivesGiven (p : Policy) (n : ℕ) (text before : List ℕ) (r : Result Telling Refusal) (after : List ℕ) : Type 0 where
  pub unloaded : (Loadable p → ⊥) → Stays r (said_refused 8 0) before after
  pub loaded : (l : Loadable p) → Gives l.declared (n - 1) r before after (owed l.declared n text (length before))
