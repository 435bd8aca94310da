-- Document 01, "Lists of calls".
use Rattle.std.specs.Prelude.{◌≡◌, List, [], ◌∷◌, ℕ, ◌<◌, length}
use Rattle.theory.specs.Query.{Query, ◌∈◌}
use Rattle.model.specs.declared.Policy.{Policy}
use Rattle.query_text.specs.Text.{accepted, read}
use Rattle.policy_text.specs.Declared.{Declared, PartitionDetermines}
use Rattle.sessions.specs.declared.opening.Session.{Session}
use Rattle.sessions.specs.declared.replies.Decision.{Decision}
use Rattle.sessions.specs.Reply.{Word, said, yes}
use Rattle.sessions.specs.Deciding.{Decided}

-- a deciding call: "any bytes as its query text", and what it gave
pub record Call : Type 0 where
  pub text : List ℕ
  pub gave : Decision

-- "each with that same policy … Each call gets the session as the call before it left it, after a refusal too"
pub data Calls (p : Policy) : Session → List Call → Session → Type 0 where
  none_left : {s : Session} → Calls p s [] s
  one_call : {s t : Session} {cs : List Call} (c : Call) → Decided p s c.text c.gave → Calls p c.gave.session cs t
      → Calls p s (c ∷ cs) t

-- the word of the reply to a call
abbrev pub Says : Call → Word → Type 0
Says c w = (said c.gave.reply).word ≡ w

module _ (d : Declared) where
  -- "A query text is well formed under a policy when none of 7, 1, 2, 4, 5 and 6, as listed for deciding, turns it back": the
  -- query is the text's lines as handed in
  abbrev pub Asks : Call → Query → Type 0
  Asks c Q = read d.widths c.text ≡ accepted Q

  -- partition n, counted from 0, determines "every query answered yes in the list"
  abbrev pub DeterminesAll : List Call → ℕ → Type 0
  DeterminesAll cs n = (c : Call) → c ∈ cs → Says c yes → (Q : Query) → Asks c Q → PartitionDetermines d n Q

  -- some partition "determines both it and every query answered yes before it"
  abbrev pub Answerable : List Call → Query → Type 0
  Answerable before Q = (n : ℕ) × (n < length d.partitions) × DeterminesAll before n × PartitionDetermines d n Q
