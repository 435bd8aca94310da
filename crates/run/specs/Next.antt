-- The next query text of an input, decided in a session.
use Rattle.std.specs.Prelude.{List, ℕ, take}
use Rattle.model.specs.declared.Tables.{Tables}
use Rattle.policy_text.specs.Declared.{Declared}
use Rattle.labelling.specs.Posed.{Ready}
use Rattle.sessions.specs.declared.opening.Session.{Session}
use Rattle.sessions.specs.Deciding.{decide_under, Gives}
use Rattle.cutting.specs.NextCut.{NextCut}
use Rattle.run.specs.declared.next.NextDecision.{NextDecision}

-- the text ends where the input is cut first, and the decision is that on its bytes
pub record NextDecided (tables : Tables) (made : List ℕ) (s : Session) (input : List ℕ) (o : NextDecision) : Type 0 where
  pub cuts : NextCut input o.end
  pub gives : (d : Declared) → Ready d tables made → Gives o.decision (decide_under d s (take o.end input))
