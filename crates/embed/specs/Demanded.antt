-- Demand 3 for programs in other languages: whoever loads a text, opens a session and hands each session that comes back to the next call
-- of `kolbrees_decide` has made a list of calls as the demand has it.
use Rattle.std.specs.Prelude.{◌≡◌, List, [], ◌∷◌, map, ℕ}
use Rattle.model.specs.declared.Policy.{Policy}
use Rattle.policy_text.specs.Text.{load}
use Rattle.policy_text.specs.Text.{accepted as accepted_policy}
use Rattle.policy_text.specs.Declared.{Declared}
use Rattle.sessions.specs.declared.opening.Session.{Session}
use Rattle.desk.specs.Calls.{Call}
use Rattle.desk.specs.Demands.{AsDemanded}
use Rattle.plain_replies.specs.Words.{word_number, accepted}
use Rattle.embed.specs.Calls.{plain_decision, LoadCall, OpenCall, DecideCall}
use Rattle.embed.specs.declared.operations.PlainLoading.{PlainLoading}
use Rattle.embed.specs.declared.operations.PlainOpening.{PlainOpening}
use Rattle.embed.specs.declared.operations.PlainDecision.{PlainDecision}

-- a call of `kolbrees_decide`: any bytes, and what came back
pub record PlainCall : Type 0 where
  pub text : List ℕ
  pub gave : PlainDecision

-- "Each call gets the session as the call before it left it, after a refusal too"
pub data PlainCalls (p : Policy) : Session → List PlainCall → Session → Type 0 where
  none_left : {s : Session} → PlainCalls p s [] s
  one_call : {s t : Session} {cs : List PlainCall} (c : PlainCall) → DecideCall p s c.text c.gave
      → PlainCalls p c.gave.session cs t → PlainCalls p s (c ∷ cs) t

-- a deciding call of the desk, in numbers
abbrev pub plain_call : Call → PlainCall
plain_call c = record { text = c.text; gave = plain_decision c.gave }

-- the calls are deciding calls of the desk, in numbers, and what demand 3 claims holds of these
abbrev pub Demanded : Type 0
Demanded =
    (text : List ℕ) (r : PlainLoading) → LoadCall text r → r.reply.word ≡ word_number accepted
    → (o : PlainOpening) → OpenCall r.policy o → (cs : List PlainCall) (s : Session) → PlainCalls r.policy o.session cs s
    → (d : Declared) × (load text ≡ accepted_policy d) × (calls : List Call) × (cs ≡ map plain_call calls) × AsDemanded d calls s
