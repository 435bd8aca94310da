-- Demand 3 for programs in other languages: their calls are the desk's own.
use mathlib.Core.Path.{◌≡◌, refl, sym, ap, subst, ◌∙◌}
use mathlib.Core.List.{List, [], ◌∷◌, map}
use native.Mathlib.Omega.{arith}
use Rattle.model.specs.declared.Policy.{Policy}
use Rattle.std.specs.Prelude.{Result, Ok, Err}
use Rattle.model.specs.declared.Refusal.{Refusal}
use Rattle.policy_text.specs.Text.{load}
use Rattle.load.specs.Value.{loading_value}
use Rattle.load.proofs.Accepted.{loaded_policy}
use Rattle.sessions.specs.declared.opening.Session.{Session}
use Rattle.validity.specs.Loadable.{Loadable}
use Rattle.sessions.specs.Opening.{all_open, Opened}
use Rattle.desk.specs.Calls.{Call, Calls}
use Rattle.desk.specs.Calls.{none_left as no_call, one_call as and_call}
use Rattle.desk.proofs.Demands.{demand_3}
use Rattle.plain_replies.specs.Words.{word_number, refused, accepted}
use Rattle.embed.specs.Calls.{plain_loading, plain_opening}
use Rattle.embed.specs.Demanded.{PlainCall, PlainCalls, none_left, one_call, plain_call, Demanded}
use Rattle.embed.specs.declared.operations.PlainLoading.{PlainLoading}
use Rattle.embed.specs.declared.operations.PlainOpening.{PlainOpening}
use Rattle.embed.specs.declared.operations.PlainDecision.{PlainDecision}

-- a loading whose word has this number gave its policy
taken : (v : Result Policy Refusal) (r : PlainLoading) → r ≡ plain_loading v → r.reply.word ≡ word_number accepted → Ok r.policy ≡ v
taken (Ok p) r e says = ap Ok (ap (λ (l : PlainLoading). l.policy) e)
taken (Err t) r e says =
    let word : r.reply.word ≡ word_number refused = ap (λ (l : PlainLoading). l.reply.word) e in absurd (omega arith)

-- the desk's calls behind a list of calls
behind : (p : Policy) {s t : Session} {cs : List PlainCall} → PlainCalls p s cs t
    → (calls : List Call) × (cs ≡ map plain_call calls) × Calls p s calls t
behind p none_left = ([], refl, no_call)
behind p (one_call {s} {t} {cs} c (d, decided, e) rest) =
    let left : c.gave.session ≡ d.session = ap (λ (g : PlainDecision). g.session) e in
    let (calls, same, made) = behind p rest in
    let call : Call = record { text = c.text; gave = d } in (
      call ∷ calls,
      (λ i. record { text = c.text; gave = e i } ∷ same i),
      and_call call decided (subst (λ (u : Session). Calls p u calls t) left made),
    )

pub demanded : Demanded
demanded text r loads says o (opening, opened, e) cs s made =
    let gave = taken (loading_value (load text)) r loads says in
    let (d, is, value, good) = loaded_policy text (Ok r.policy) gave r.policy refl in
    let l : Loadable r.policy = record { text = text; declared = d; loads = is; value = value } in
    let all : opening ≡ Ok (all_open d) = opened.opened l in
    let session : o.session ≡ all_open d = ap (λ (v : PlainOpening). v.session) (e ∙ ap plain_opening all) in
    let (calls, same, behind_calls) = behind r.policy made in
    let under = subst (λ (g : Result Session Refusal). Opened r.policy g) all opened in
    let from = subst (λ (u : Session). Calls r.policy u calls s) session behind_calls in
    let (d, loaded, holds) = demand_3 text r.policy gave (all_open d) under calls s from in
    (d, loaded, calls, same, holds)
