-- The customer's demands as types. Their hypotheses are the contracts of the desk's operations, word for word; their proofs are
-- `demand_1 : Demand1` and so on, in `proofs/Demands.antt`.
use Rattle.std.specs.Prelude.{◌≡◌, Ok, ◌↔◌, List, ◌∷◌, ◌++◌, map, ℕ, ◌^◌, ◌<◌, length, Result}
use Rattle.theory.specs.Query.{Query}
use Rattle.theory.specs.Count.{Counts}
use Rattle.words.specs.Bits.{bit}
use Rattle.model.specs.declared.Policy.{Policy}
use Rattle.model.specs.declared.Refusal.{Refusal}
use Rattle.query_text.specs.Text.{read}
use Rattle.query_text.specs.Text.{accepted as read_as}
use Rattle.policy_text.specs.Text.{load, accepted}
use Rattle.policy_text.specs.Declared.{Declared}
use Rattle.validity.specs.Loadable.{Loadable}
use Rattle.load.specs.Value.{loading_value}
use Rattle.sessions.specs.declared.opening.Session.{Session}
use Rattle.sessions.specs.declared.replies.Decision.{Decision}
use Rattle.sessions.specs.Reply.{said, yes, no}
use Rattle.sessions.specs.Session.{open_count}
use Rattle.sessions.specs.Opening.{Opened}
use Rattle.sessions.specs.Deciding.{Decided}
use Rattle.label_lists.specs.Listing.{listed, Lists, LabelsGiven}
use Rattle.desk.specs.Outcomes.{Outcomes}
use Rattle.desk.specs.Calls.{Call, Calls, Says, Asks, DeterminesAll, Answerable}
use Rattle.desk.specs.Rewriting.{LabelsOf}

-- ---- demand 1

-- "Every well-formed policy, query and session gets a yes, a no or an explanation as document 01 lays down, on any bytes handed in.
-- Everything else is turned back by one of its listed numbers, under exactly that number's condition, with the session and every
-- lent buffer unchanged": the contracts say which; each leaves one outcome, a refusal has one of the operation's numbers and leaves the
-- rest as it was, and the texts that are accepted are those that what is well formed is printed as.
abbrev pub Demand1 : Type 0
Demand1 = Outcomes

-- ---- demand 2

-- "A view stands in the label of a query's line exactly when that line, after the query is reduced and shared variables are shown,
-- can be rewritten over that one view …": of every call of `labels` under a loaded policy with a well-formed text, whatever the
-- buffer. There are words that are the labels of the query, and the call gives them, or 10 where the buffer is too short.
abbrev pub Demand2 : Type 0
Demand2 =
    (p : Policy) (l : Loadable p) (text before : List ℕ) (r : Result ℕ Refusal) (after : List ℕ) → LabelsGiven p text before r after
    → (Q : Query) → read l.declared.widths text ≡ read_as Q
    → (ws : List ℕ) × LabelsOf l.declared Q ws × Lists r after (listed before ws)

-- ---- demand 3

module _ (d : Declared) where
  -- what is claimed of one call and the calls before it
  pub record Right (before : List Call) (c : Call) : Type 0 where
    -- "the count of partitions left open in the session, which the reply to a yes or a no also carries"
    pub yes_count : Says c yes → (said c.gave.reply).count ≡ open_count c.gave.session.mask
    pub no_count : Says c no → (said c.gave.reply).count ≡ open_count c.gave.session.mask
    -- "A call gets a no exactly when its query is well formed and no partition determines both it and every query answered
    -- yes before it"
    pub no_exactly : Says c no ↔ ((Q : Query) × Asks d c Q × (Answerable d before Q → ⊥))
    -- "where one does, a well-formed query gets a yes", and nothing else does
    pub yes_exactly : Says c yes ↔ ((Q : Query) × Asks d c Q × Answerable d before Q)

  -- what is claimed of a whole list of calls and the session after it
  pub record AsDemanded (cs : List Call) (s : Session) : Type 0 where
    -- "the count of partitions left open in the session … is the number of the policy's partitions that determine every query
    -- answered yes in the list"
    pub left_open : Counts (DeterminesAll d cs) (length d.partitions) (open_count s.mask)
    -- and these are the partitions left open, partition n at bit n − 1, and no other bit is set
    pub open_exactly : (n : ℕ) → n < length d.partitions → (bit s.mask n ≡ 1) ↔ DeterminesAll d cs n
    pub no_other : s.mask < 2 ^ length d.partitions
    pub each_call : (before : List Call) (c : Call) (after : List Call) → cs ≡ before ++ c ∷ after → Right before c

-- "For every list of deciding calls on a fresh session under one loaded policy, whatever bytes their query texts hold and whatever
-- replies they get": for every text that `load` accepts, what `open_session` then gives, and every list of calls of `decide`
abbrev pub Demand3 : Type 0
Demand3 =
    (text : List ℕ) (p : Policy) → Ok p ≡ loading_value (load text)
    → (fresh : Session) → Opened p (Ok fresh) → (cs : List Call) (s : Session) → Calls p fresh cs s
    → (d : Declared) × (load text ≡ accepted d) × AsDemanded d cs s

-- Its hypotheses can be met: under a loaded policy every session and text has a decision, and every list of texts a list of calls.
pub record Met (p : Policy) : Type 0 where
  pub decision : (s : Session) (text : List ℕ) → (r : Decision) × Decided p s text r
  pub calls : (s : Session) (texts : List (List ℕ))
      → (cs : List Call) × (t : Session) × (map (λ (c : Call). c.text) cs ≡ texts) × Calls p s cs t

abbrev pub Demand3Met : Type 0
Demand3Met = (p : Policy) → Loadable p → Met p
