-- The hypotheses of demand 3 can be met: whatever the texts, they are the texts of a list of calls.
use mathlib.Core.Path.{◌≡◌, refl, sym, ap, subst, ◌∙◌}
use mathlib.Core.List.{List, [], ◌∷◌, map}
use Prim.Native.Nat.{ℕ}
use lib.Dec.{eqb}
use Rattle.model.specs.declared.Policy.{Policy}
use Rattle.words.proofs.Answers.{either}
use Rattle.query_text.specs.Text.{Reading, refused, accepted, read}
use Rattle.policy_text.specs.Declared.{Declared}
use Rattle.policy_text.specs.Abstract.{declared_by}
use Rattle.policy_text.proofs.Bridge.{stands_for}
use Rattle.policy_text.proofs.Loaded.{loaded_well_formed}
use Rattle.validity.specs.Loadable.{Loadable}
use Rattle.sessions.specs.declared.opening.Session.{Session}
use Rattle.sessions.specs.declared.replies.Reply.TheVariants.{Yes, No, Refused}
use Rattle.sessions.specs.declared.replies.Decision.{Decision}
use Rattle.sessions.specs.Reply.{said}
use Rattle.sessions.specs.Session.{open_count}
use Rattle.sessions.specs.Deciding.{unfit, still_open, narrowed, Verdict, turned_back, answered, decide_query, decide_under, Gives, Decided}
use Rattle.desk.specs.Calls.{Call, Calls, none_left, one_call}
use Rattle.desk.specs.Demands.{Demand3Met}

abbrev Given : Verdict → Type 0
Given o = (r : Decision) × Gives r o

turned_given : (s : Session) (n k : ℕ) → Given (turned_back s n k)
unfolding turned_back said
turned_given s n k = (record { reply = Refused n k; session = s }, record { reply = refl; session = refl })

query_given : (d : Declared) (s : Session) (v : Reading) → Given (decide_query d s v)
unfolding decide_query answered said
query_given d s (refused n k) = turned_given s n k
query_given d s (accepted Q) =
    let left = still_open d Q s.mask in
    either Given (eqb left 0) (record { reply = No (open_count s.mask); session = s }, record { reply = refl; session = refl })
    (record { reply = Yes (open_count left); session = narrowed s left }, record { reply = refl; session = refl })

-- what is declared is fixed by the value
pub declared_once : {p : Policy} (l k : Loadable p) → l.declared ≡ k.declared
declared_once l k =
    sym (stands_for l.declared (loaded_well_formed l.text l.declared l.loads))
    ∙ ap declared_by (sym l.value ∙ k.value)
    ∙ stands_for k.declared (loaded_well_formed k.text k.declared k.loads)

-- every session and text has a decision under a loaded policy
pub decided_exists : {p : Policy} → Loadable p → (s : Session) (text : List ℕ) → (r : Decision) × Decided p s text r
unfolding decide_under
decided_exists l s text =
    let d = l.declared in
    let (r, g) = either Given (unfit d s) (turned_given s 9 0) (query_given d s (read d.widths text)) in (
      r,
      record {
        unloaded = λ f. absurd (f l);
        loaded = λ k. subst (λ (e : Declared). Gives r (decide_under e s text)) (declared_once l k) g;
      },
    )

calls_exist : (p : Policy) → Loadable p → (s : Session) (texts : List (List ℕ))
    → (cs : List Call) × (t : Session) × (map (λ (c : Call). c.text) cs ≡ texts) × Calls p s cs t
calls_exist p l s [] = ([], s, refl, none_left)
calls_exist p l s (x ∷ xs) =
    let (r, d) = decided_exists l s x in
    let (cs, t, e, c) = calls_exist p l r.session xs in
    let k : Call = record { text = x; gave = r } in (k ∷ cs, t, ap (λ (ys : List (List ℕ)). x ∷ ys) e, one_call k d c)

pub demand_3_met : Demand3Met
demand_3_met p l = record { decision = decided_exists l; calls = calls_exist p l }
