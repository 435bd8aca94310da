-- The mode `rules`: request 3, "Queries as the papers print them", for a file of rules, one a line.
--
-- The page holds, in the order of the rules, the query text of each that is taken, as it is, and for each that is turned back two lines. Who
-- wants the file of queries alone drops the lines that start with `rule` or with a space: `grep -v -e '^rule' -e '^ '`.
use Rattle.std.specs.Prelude.{List, [], ◌∷◌, ◌++◌, ℕ, suc}
use Rattle.text.specs.Lines.{space, newline, lines}
use Rattle.text.specs.Names.{bytes}
use Rattle.text.specs.Print.{decimal}
use Rattle.query_text.specs.Text.{most_query_bytes}
use Rattle.policy_text.specs.Text.{Loading, refused, accepted, load}
use Rattle.import.specs.Import.{Owed, refusal, text, owed}
use Rattle.page.specs.Refusal.{indented, policy_refused}

-- of a rule that is turned back: `rule K refused NUMBER LINE`, and below it the rule
unfoldable pub rule_refused : ℕ → List ℕ → ℕ → ℕ → List ℕ
unfolding bytes decimal indented
rule_refused k shown number line =
    bytes "rule " ++ decimal k ++ space ∷ bytes "refused " ++ decimal number ++ space ∷ decimal line ++ newline ∷ indented shown

-- of what importing owes for the rule: its query text, or the refusal
unfoldable pub entry : ℕ → List ℕ → Owed → List ℕ
unfolding rule_refused
entry k shown (refusal number line) = rule_refused k shown number line
entry k shown (text t) = t

-- rule k, and what is shown of it: written alone where any query text has room, so that 10 is not met
unfoldable pub rule_bytes : List ℕ → ℕ → List ℕ → List ℕ → List ℕ
unfolding entry owed
rule_bytes widths k rule shown = entry k shown (owed widths rule 0 most_query_bytes)

-- the rules from number k on, among complete lines and a tail that lacks its end: "A rule is one line, ended by byte 10"
unfoldable pub rules_from : List ℕ → ℕ → List (List ℕ) → List ℕ → List ℕ
unfolding rule_bytes
rules_from widths k [] [] = []
rules_from widths k [] (b ∷ tail) = rule_bytes widths k (b ∷ tail) (b ∷ tail)
rules_from widths k (l ∷ ls) tail = rule_bytes widths k (l ++ newline ∷ []) l ++ rules_from widths (suc k) ls tail

-- the same of a text, whose first line has the number k
unfoldable pub rules_in : List ℕ → ℕ → List ℕ → List ℕ
unfolding rules_from lines
rules_in widths k rules = rules_from widths k (lines rules).ended (lines rules).rest

unfoldable pub rules_under : List ℕ → List ℕ → Loading → List ℕ
unfolding rules_in policy_refused
rules_under policy rules (refused number line) = policy_refused policy number line
rules_under policy rules (accepted d) = rules_in d.widths 1 rules

-- the page for the bytes of a policy and the bytes of a file of rules
unfoldable pub rules_page : List ℕ → List ℕ → List ℕ
unfolding rules_under load
rules_page policy rules = rules_under policy rules (load policy)
