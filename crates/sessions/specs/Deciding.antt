-- Document 01, "Session" and "Deciding".
use Rattle.std.specs.Prelude.{◌≡◌, Bool, cond, ◌||◌, List, [], ◌∷◌, ℕ, ◌+◌, ◌*◌, ◌/◌, ◌%◌, ◌^◌, eqb, leb, length}
use Rattle.theory.specs.Query.{Query}
use Rattle.theory.specs.Executable.Label.{settles}
use Rattle.model.specs.declared.Policy.{Policy}
use Rattle.model.specs.declared.Tables.{Tables}
use Rattle.query_text.specs.Text.{Reading, refused, accepted, read}
use Rattle.policy_text.specs.Declared.{Declared}
use Rattle.validity.specs.Loadable.{Loadable}
use Rattle.labelling.specs.Settled.{granted}
use Rattle.labelling.specs.Posed.{Ready, PosedRows}
use Rattle.sessions.specs.declared.opening.Session.{Session}
use Rattle.sessions.specs.declared.replies.Decision.{Decision}
use Rattle.sessions.specs.Reply.{Said, said, yes, no}
use Rattle.sessions.specs.Reply.{refused as turned}
use Rattle.sessions.specs.Session.{open_count}

-- 9: "a session with no partition open, or one beyond the policy's": from bit n on a word of n bits has none
unfoldable pub unfit : Declared → Session → Bool
unfit d s = eqb s.mask 0 || leb (2 ^ length d.partitions) s.mask

-- the partitions of a word that pass a test
unfoldable pub passing : (List ℕ → Bool) → List (List ℕ) → ℕ → ℕ
passing f [] mask = 0
passing f (vs ∷ ps) mask = cond (f vs) (mask % 2) 0 + 2 * passing f ps (mask / 2)

-- "The decision keeps open only those that settle the query"
unfoldable pub still_open : Declared → Query → ℕ → ℕ
unfolding passing settles granted
still_open d Q mask = passing (λ vs. settles (granted d.views vs) Q) d.partitions mask

-- the session with these partitions open, and otherwise as it was
abbrev pub narrowed : Session → ℕ → Session
narrowed s left = record { mask = left }

-- what a call says, and the session that it leaves
pub record Verdict : Type 0 where
  pub says : Said
  pub leaves : Session

-- "On any refusal the session … stay[s] … and a count in the reply is 0."
unfoldable pub turned_back : Session → ℕ → ℕ → Verdict
turned_back s number line = record { says = record { word = turned; count = 0; number = number; line = line }; leaves = s }

-- "keeps open only those that settle the query; if none would be left the answer is no and the session stays"
unfoldable pub answered : Session → ℕ → Verdict
answered s left =
    cond (eqb left 0) (record { says = record { word = no; count = open_count s.mask; number = 0; line = 0 }; leaves = s })
    (record { says = record { word = yes; count = open_count left; number = 0; line = 0 }; leaves = narrowed s left })

unfoldable pub decide_query : Declared → Session → Reading → Verdict
unfolding turned_back answered still_open
decide_query d s (refused n k) = turned_back s n k
decide_query d s (accepted Q) = answered s (still_open d Q s.mask)

-- "Then 9 … Then the text", under what a loaded policy declares
unfoldable pub decide_under : Declared → Session → List ℕ → Verdict
unfolding unfit turned_back decide_query read
decide_under d s text = cond (unfit d s) (turned_back s 9 0) (decide_query d s (read d.widths text))

-- the reply and the session of a call
pub record Gives (r : Decision) (o : Verdict) : Type 0 where
  pub reply : said r.reply ≡ o.says
  pub session : r.session ≡ o.leaves

-- under what is prepared of a policy, the answer to a query of n lines that is laid in rows
abbrev pub RowsAnswered : List ℕ → Session → ℕ → List ℕ → Decision → Type 0
RowsAnswered r s n rows o =
    (d : Declared) (t : Tables) (Q : Query) → Ready d t r → PosedRows d Q n rows → Gives o (answered s (still_open d Q s.mask))

-- under what is prepared of a policy, a query of n lines that is laid in rows is decided as each text is that reads to it
abbrev pub RowsDecided : List ℕ → Session → ℕ → List ℕ → Decision → Type 0
RowsDecided r s n rows o =
    (d : Declared) (t : Tables) (Q : Query) (text : List ℕ) → Ready d t r → PosedRows d Q n rows → read d.widths text ≡ accepted Q
    → Gives o (decide_under d s text)

-- "Deciding. 8. Then 9 …"
pub record Decided (p : Policy) (s : Session) (text : List ℕ) (r : Decision) : Type 0 where
  pub unloaded : (Loadable p → ⊥) → Gives r (turned_back s 8 0)
  pub loaded : (l : Loadable p) → Gives r (decide_under l.declared s text)
