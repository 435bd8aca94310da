-- The program's lines are the replies to a list of the desk's calls, and demand 3 holds of them.
use mathlib.Core.Path.{◌≡◌, refl, sym, ap, subst, ◌∙◌}
use mathlib.Core.List.{List, [], ◌∷◌, ◌++◌, map}
use Prim.Native.Nat.{ℕ, suc}
use Rattle.model.specs.declared.Policy.{Policy}
use Rattle.std.specs.Prelude.{Ok}
use Rattle.policy_text.specs.Text.{load}
use Rattle.policy_text.specs.Declared.{Declared}
use Rattle.policy_text.specs.Text.{accepted as accepted_policy}
use Rattle.policy_text.specs.Policy.{policy_value}
use Rattle.validity.specs.Loadable.{Loadable}
use Rattle.load.specs.Value.{loading_value}
use Rattle.sessions.specs.declared.opening.Session.{Session}
use Rattle.sessions.specs.declared.replies.Decision.{Decision}
use Rattle.sessions.specs.Opening.{all_open, Opened}
use Rattle.sessions.specs.Deciding.{Verdict, decide_under, Gives}
use Rattle.desk.specs.Calls.{Call, Calls, none_left, one_call}
use Rattle.desk.specs.Demands.{AsDemanded}
use Rattle.desk.proofs.Exists.{declared_once, decided_exists}
use Rattle.desk.proofs.Demands.{demand_3}
use Rattle.cutting.specs.Cut.{cut}
use Rattle.run.specs.Output.{output_names}
use Rattle.run.specs.Run.{reply_bytes, lines_from}
use Rattle.run.specs.Program.{call_line, call_lines, Program}
use Rattle.run.proofs.Written.{written_accepted, written_refused}

-- ---- the lines

line_is : (k : ℕ) (text : List ℕ) (r : Decision) (o : Verdict) → Gives r o → reply_bytes k o ≡ call_line k (record { text = text; gave = r })
unfolding reply_bytes call_line
line_is k text r o g = rw (g.reply, g.session)

-- the calls of a list of texts from a session on, and the lines for them
record Called (p : Policy) (d : Declared) (s : Session) (k : ℕ) (texts : List (List ℕ)) : Type 0 where
  calls : List Call
  left : Session
  made : Calls p s calls left
  texts_are : map (λ (c : Call). c.text) calls ≡ texts
  lines : lines_from d s k texts ≡ call_lines k calls

called : (p : Policy) (l : Loadable p) (s : Session) (k : ℕ) (texts : List (List ℕ)) → Called p l.declared s k texts
unfolding lines_from call_lines
called p l s k [] = record { calls = []; left = s; made = none_left; texts_are = refl; lines = refl }
called p l s k (t ∷ ts) =
    let (r, g) = decided_exists l s t in
    let c : Call = record { text = t; gave = r } in
    let rest = called p l r.session (suc k) ts in
    record {
      calls = c ∷ rest.calls;
      left = rest.left;
      made = one_call c g rest.made;
      texts_are = ap (λ (us : List (List ℕ)). t ∷ us) rest.texts_are;
      lines = rw (line_is k t r (decide_under l.declared s t) (g.loaded l), sym (g.loaded l).session, rest.lines);
    }

-- ---- the session

-- what opening gives under what is declared
opens : {p : Policy} (l : Loadable p) → Opened p (Ok (all_open l.declared))
opens l = record { turned = λ f. absurd (f l); opened = λ k. ap (λ (d : Declared). Ok (all_open d)) (declared_once l k) }

-- what demand 3 claims, of the calls under a text that declares d
demanded : (text : List ℕ) (d : Declared) → load text ≡ accepted_policy d → (fresh : Session) → Opened (policy_value d) (Ok fresh)
    → (cs : List Call) (s : Session) → Calls (policy_value d) fresh cs s → AsDemanded d cs s
unfolding loading_value
demanded text d e fresh opened cs s calls =
    let (f, a, done) = demand_3 text (policy_value d) (ap loading_value (sym e)) fresh opened cs s calls in
    let loads : accepted_policy f ≡ accepted_policy d = sym a ∙ e in
    let same : f ≡ d = cc in
    subst (λ (g : Declared). AsDemanded g cs s) same done

pub program : Program
program policy queries =
    record {
      loaded = λ d e.
          let l : Loadable (policy_value d) = record { text = policy; declared = d; loads = e; value = refl } in
          let c = called (policy_value d) l (all_open d) 1 (cut queries) in
          record {
            fresh = all_open d;
            opened = opens l;
            calls = c.calls;
            left = c.left;
            made = c.made;
            texts = c.texts_are;
            output = written_accepted policy queries d e ∙ ap (λ (x : List ℕ). output_names ++ 10 ∷ x) c.lines;
            demanded = demanded policy d e (all_open d) (opens l) c.calls c.left c.made;
          };
      turned = written_refused policy queries;
    }
