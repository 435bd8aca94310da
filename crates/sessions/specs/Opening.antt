-- Document 01, "Opening".
use Rattle.std.specs.Prelude.{◌≡◌, Result, Ok, Err, ◌-◌, ◌^◌, length}
use Rattle.model.specs.declared.Policy.{Policy}
use Rattle.model.specs.declared.Refusal.{Refusal}
use Rattle.policy_text.specs.Declared.{Declared}
use Rattle.validity.specs.Loadable.{Loadable}
use Rattle.sessions.specs.declared.opening.Session.{Session}

-- "every partition is open"
unfoldable pub all_open : Declared → Session
all_open d = record { mask = 2 ^ length d.partitions - 1 }

-- where a reply must hold a session beside a refusal, "no partition open"
abbrev pub none_open : Session
none_open = record { mask = 0 }

-- "8: a policy value that no loading gives. Otherwise every partition is open."
pub record Opened (p : Policy) (r : Result Session Refusal) : Type 0 where
  pub turned : (Loadable p → ⊥) → r ≡ Err (record { number = 8; line = 0 })
  pub opened : (l : Loadable p) → r ≡ Ok (all_open l.declared)
