-- What each exported function says: some reply that meets the contract of the desk's own operation, in numbers. The buffer and the session
-- are that operation's too.
use Rattle.std.specs.Prelude.{◌≡◌, Result, Ok, Err, Option, List, ℕ}
use Rattle.model.specs.declared.Refusal.{Refusal}
use Rattle.model.specs.declared.Policy.{Policy}
use Rattle.policy_text.specs.Text.{load, nothing}
use Rattle.policy_text.specs.Policy.{policy_value}
use Rattle.load.specs.Value.{loading_value}
use Rattle.sessions.specs.declared.opening.Session.{Session}
use Rattle.sessions.specs.declared.replies.Decision.{Decision}
use Rattle.sessions.specs.Opening.{none_open, Opened}
use Rattle.sessions.specs.Deciding.{Decided}
use Rattle.label_lists.specs.Listing.{LabelsGiven}
use Rattle.explanations.specs.declared.Explaining.{Explaining}
use Rattle.explanations.specs.Explaining.{ExplanationGiven}
use Rattle.apart.specs.declared.telling.Telling.{Telling}
use Rattle.apart.specs.Archives.{ArchivesGiven}
use Rattle.grants.specs.Granting.{GrantGiven}
use Rattle.import.specs.Import.{ImportGiven}
use Rattle.plain_replies.specs.Replies.{plain_outcome, plain_reply, plain_listing, plain_explaining}
use Rattle.plain_replies.specs.Replies.{plain_telling, plain_granting, plain_imported}
use Rattle.plain_replies.specs.declared.PlainReply.{PlainReply}
use Rattle.embed.specs.declared.operations.PlainLoading.{PlainLoading}
use Rattle.embed.specs.declared.operations.PlainOpening.{PlainOpening}
use Rattle.embed.specs.declared.operations.PlainDecision.{PlainDecision}

-- ---- replies with a policy or a session

-- "Where the reply must hold a policy or session beside a refusal, it is the empty one"
abbrev pub plain_loading : Result Policy Refusal → PlainLoading
plain_loading (Ok p) = record { reply = plain_outcome (Ok tt); policy = p }
plain_loading (Err r) = record { reply = plain_outcome (Err r); policy = policy_value nothing }

abbrev pub plain_opening : Result Session Refusal → PlainOpening
plain_opening (Ok s) = record { reply = plain_outcome (Ok tt); session = s }
plain_opening (Err r) = record { reply = plain_outcome (Err r); session = none_open }

abbrev pub plain_decision : Decision → PlainDecision
plain_decision d = record { reply = plain_reply d.reply; session = d.session }

-- ---- the calls

abbrev pub LoadCall : List ℕ → PlainLoading → Type 0
LoadCall text r = r ≡ plain_loading (loading_value (load text))

abbrev pub OpenCall : Policy → PlainOpening → Type 0
OpenCall p r = (o : Result Session Refusal) × Opened p o × (r ≡ plain_opening o)

abbrev pub DecideCall : Policy → Session → List ℕ → PlainDecision → Type 0
DecideCall p s text r = (d : Decision) × Decided p s text d × (r ≡ plain_decision d)

abbrev pub LabelsCall : Policy → (text before : List ℕ) → PlainReply → List ℕ → Type 0
LabelsCall p text before r after = (l : Result ℕ Refusal) × LabelsGiven p text before l after × (r ≡ plain_listing l)

abbrev pub ExplainCall : Policy → ℕ → (text before : List ℕ) → PlainReply → List ℕ → Type 0
ExplainCall p n text before r after = (e : Result Explaining Refusal) × ExplanationGiven p n text before e after × (r ≡ plain_explaining e)

abbrev pub ApartCall : Policy → ℕ → (text before : List ℕ) → PlainReply → List ℕ → Type 0
ApartCall p n text before r after = (t : Result Telling Refusal) × ArchivesGiven p n text before t after × (r ≡ plain_telling t)

abbrev pub GrantCall : Policy → ℕ → (text before : List ℕ) → PlainReply → List ℕ → Type 0
GrantCall p n text before r after = (g : Result (Option ℕ) Refusal) × GrantGiven p n text before g after × (r ≡ plain_granting g)

abbrev pub ImportCall : Policy → (rule : List ℕ) → ℕ → (before : List ℕ) → PlainReply → List ℕ → Type 0
ImportCall p rule place before r after = (i : Result ℕ Refusal) × ImportGiven p rule place before i after × (r ≡ plain_imported i)
