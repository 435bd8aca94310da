-- What the program writes, as replies of the desk: demand 3 holds of its output. The proof is `program : Program`
-- (`proofs/Program.antt`).
use Rattle.std.specs.Prelude.{◌≡◌, Ok, List, [], ◌∷◌, ◌++◌, map, ℕ, suc}
use Rattle.policy_text.specs.Text.{load}
use Rattle.policy_text.specs.Declared.{Declared}
use Rattle.policy_text.specs.Text.{refused as refused_policy, accepted as accepted_policy}
use Rattle.policy_text.specs.Policy.{policy_value}
use Rattle.sessions.specs.declared.opening.Session.{Session}
use Rattle.sessions.specs.Reply.{said, refused}
use Rattle.sessions.specs.Session.{open_count}
use Rattle.sessions.specs.Opening.{Opened}
use Rattle.desk.specs.Calls.{Call, Calls}
use Rattle.desk.specs.Demands.{AsDemanded}
use Rattle.cutting.specs.Cut.{cut}
use Rattle.run.specs.Output.{output_names, output_line}
use Rattle.run.specs.Run.{written}

-- "the query's number from 1; `yes`, `no` or `refused`; the open count left in the session; refusal number; its line"
unfoldable pub call_line : ℕ → Call → List ℕ
unfolding output_line said
call_line k c =
    let reply = said c.gave.reply in output_line k reply.word (open_count c.gave.session.mask) reply.number reply.line

-- a line for each call, numbered from k on
unfoldable pub call_lines : ℕ → List Call → List ℕ
unfolding call_line
call_lines k [] = []
call_lines k (c ∷ cs) = call_line k c ++ call_lines (suc k) cs

-- Under a policy that loads: deciding calls, one for each query of the input in its order, "decided in one session" from the one that
-- opening gives, their replies the output, and what demand 3 claims of them.
pub record Replies (policy queries : List ℕ) (d : Declared) : Type 0 where
  pub fresh : Session
  pub opened : Opened (policy_value d) (Ok fresh)
  pub calls : List Call
  pub left : Session
  pub made : Calls (policy_value d) fresh calls left
  pub texts : map (λ (c : Call). c.text) calls ≡ cut queries
  pub output : written policy queries ≡ output_names ++ 10 ∷ call_lines 1 calls
  pub demanded : AsDemanded d calls left

-- for all bytes of the policy's file and of standard input
pub record Output (policy queries : List ℕ) : Type 0 where
  pub loaded : (d : Declared) → load policy ≡ accepted_policy d → Replies policy queries d
  -- "A refused policy gives `0 refused 0` with number and line, alone under the names."
  pub turned : (n k : ℕ) → load policy ≡ refused_policy n k → written policy queries ≡ output_names ++ 10 ∷ output_line 0 refused 0 n k

abbrev pub Program : Type 0
Program = (policy queries : List ℕ) → Output policy queries
