-- The page of `rules`, from the policy that is loaded.
use mathlib.Core.Path.{◌≡◌, ap}
use mathlib.Core.List.{List}
use Prim.Native.Nat.{ℕ}
use Rattle.model.specs.Value.{tables_value}
use Rattle.model.specs.declared.Policy.{Policy}
use Rattle.policy_text.specs.Declared.{Declared}
use Rattle.policy_text.specs.Text.{load, refused, accepted}
use Rattle.policy_text.specs.Policy.{policy_value}
use Rattle.labelling.specs.Text.{LoadedTo}
use Rattle.page.specs.Refusal.{policy_refused}
use Rattle.mode_rules.specs.RulesPage.{rules_in, rules_under, rules_page}
use Rattle.mode_rules.specs.Writing.{Under}

module _ (p : Policy) (d : Declared) (l : LoadedTo p d) where
  tables_are : p.tables ≡ tables_value d.widths
  unfolding policy_value
  tables_are = ap (λ (q : Policy). q.tables) l.policy

  -- the tables of a loaded policy have the columns that its text declares
  pub under_loaded : Under p.tables
  under_loaded = record { widths = d.widths; value = tables_are; narrow = l.good.tables.each }

pub page_refused : (policy rules : List ℕ) (n k : ℕ) → load policy ≡ refused n k → policy_refused policy n k ≡ rules_page policy rules
unfolding rules_page rules_under
page_refused policy rules n k e = rw e

pub page_accepted : (policy rules : List ℕ) (p : Policy) (d : Declared) (l : LoadedTo p d) → load policy ≡ accepted d
    → rules_in (under_loaded p d l).widths 1 rules ≡ rules_page policy rules
unfolding rules_page rules_under under_loaded
page_accepted policy rules p d l e = rw e
