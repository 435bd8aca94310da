-- Document 01, "The program and its first file": the bytes written for a policy text and the bytes of standard input.
use Rattle.std.specs.Prelude.{List, [], ◌∷◌, ◌++◌, ℕ, suc}
use Rattle.text.specs.Lines.{newline}
use Rattle.policy_text.specs.Text.{Loading, load}
use Rattle.policy_text.specs.Declared.{Declared}
use Rattle.policy_text.specs.Text.{refused as refused_policy, accepted as accepted_policy}
use Rattle.sessions.specs.declared.opening.Session.{Session}
use Rattle.sessions.specs.Reply.{refused}
use Rattle.sessions.specs.Session.{open_count}
use Rattle.sessions.specs.Opening.{all_open}
use Rattle.sessions.specs.Deciding.{Verdict, decide_under}
use Rattle.cutting.specs.Cut.{cut}
use Rattle.run.specs.Output.{output_names, output_line}

-- one query, and the others in the session that it leaves
unfoldable pub reply_bytes : ℕ → Verdict → List ℕ
unfolding output_line
reply_bytes k o = output_line k o.says.word (open_count o.leaves.mask) o.says.number o.says.line

-- "decided in one session": the queries from number k on
unfoldable pub lines_from : Declared → Session → ℕ → List (List ℕ) → List ℕ
unfolding decide_under reply_bytes
lines_from d s k [] = []
lines_from d s k (t ∷ ts) = let o = decide_under d s t in reply_bytes k o ++ lines_from d o.leaves (suc k) ts

-- "A refused policy gives `0 refused 0` with number and line, alone under the names. No input under an accepted policy gives
-- the names only."
unfoldable pub under : Loading → List ℕ → List ℕ
unfolding output_line lines_from all_open cut
under (refused_policy n k) queries = output_line 0 refused 0 n k
under (accepted_policy d) queries = lines_from d (all_open d) 1 (cut queries)

unfoldable pub written : List ℕ → List ℕ → List ℕ
unfolding output_names under load
written policy queries = output_names ++ newline ∷ under (load policy) queries
