-- The reply of importing and the buffer after it, case by case.
use mathlib.Core.Path.{◌≡◌, refl, sym, ap, subst, ◌∙◌}
use mathlib.Core.List.{List}
use mathlib.Core.Bool.{true≢false}
use mathlib.Core.Option.{Option as Maybe, none, some}
use Prim.Native.Nat.{ℕ, zero, suc, ◌≤◌, ◌<◌}
use lib.ListN.{length, take}
use borrow.Author.Tests.{lt-ltb, le-ltb}
use Rattle.std.specs.Prelude.{Result, Ok, Err}
use Rattle.std.specs.Result.{is_ok}
use Rattle.model.specs.declared.Tables.{Tables}
use Rattle.model.specs.declared.Policy.{Policy}
use Rattle.model.specs.declared.Refusal.{Refusal}
use Rattle.policy_text.specs.Policy.{policy_value}
use Rattle.policy_text.proofs.Loaded.{loaded_well_formed}
use Rattle.validity.specs.Loadable.{Loadable}
use Rattle.rules.specs.Rule.{Rule}
use Rattle.rules.specs.Text.{rule_of}
use Rattle.rules.specs.Checks.{rule_fault}
use Rattle.import.specs.declared.translating.TurnedBack.{TurnedBack}
use Rattle.import.specs.Translating.{TranslatedAs, Translates}
use Rattle.import.specs.Import.{most_rule_bytes, said_import, Owed, owed_for, owed_rule, owed, Gives, TextGiven, RuleGiven, ImportGiven}

-- ---- a rule under tables

module _ (tables : Tables) (rule : List ℕ) (place : ℕ) (before : List ℕ) where
  pub too_long : most_rule_bytes < length rule → RuleGiven tables rule place before (Err (record { number = 7; line = 0 })) before
  unfolding owed said_import
  too_long h widths t n = rw (lt-ltb most_rule_bytes (length rule) h) (refl, refl)

  module _ (short : length rule ≤ most_rule_bytes) (text : List ℕ) {t : Result ℕ TurnedBack} (says : Translates tables rule text t) where
    -- what is owed goes by the rule that the text says
    by_rule : (r : Result ℕ Refusal) (after : List ℕ)
        → ((widths : List ℕ) (o : Maybe Rule) → TranslatedAs widths o text t
        → Gives place r before after (owed_rule widths place (length before) o))
        → RuleGiven tables rule place before r after
    unfolding owed
    by_rule r after f widths e n = rw (le-ltb most_rule_bytes (length rule) short) (f widths (rule_of rule) (says widths e n))

    -- a fault at line 1
    pub turned_back : (n : ℕ) → t ≡ Err (record { number = n }) → RuleGiven tables rule place before (Err (record { number = n; line = 1 })) before
    unfolding owed_rule owed_for said_import
    turned_back n e = by_rule (Err (record { number = n; line = 1 })) before go
      where
        number_in : Result ℕ TurnedBack → ℕ
        number_in (Ok n) = 0
        number_in (Err b) = b.number

        owing : (f n : ℕ) (next : Owed) → n ≡ f → (n ≡ 0 → ⊥) → Gives place (Err (record { number = n; line = 1 })) before before (owed_for f next)
        owing zero n next q z = absurd (z q)
        owing (suc f) n next q z = rw q (refl, refl)

        go : (widths : List ℕ) (o : Maybe Rule) → TranslatedAs widths o text t
            → Gives place (Err (record { number = n; line = 1 })) before before (owed_rule widths place (length before) o)
        go widths none q = let same : n ≡ 1 = ap number_in (sym e ∙ q) in rw same (refl, refl)
        go widths (some x) q = let w = rw e at q in owing (rule_fault widths x) n _ w.0 w.1

    pub text_given : (n : ℕ) → t ≡ Ok n → (r : Result ℕ Refusal) (after : List ℕ) → TextGiven (take n text) place before r after
        → RuleGiven tables rule place before r after
    unfolding owed_rule owed_for
    text_given n e r after g = by_rule r after go
      where
        go : (widths : List ℕ) (o : Maybe Rule) → TranslatedAs widths o text t
            → Gives place r before after (owed_rule widths place (length before) o)
        go widths none q = absurd (true≢false (ap is_ok (sym e ∙ q)))
        go widths (some x) q =
            let w = rw e at q in
            rw w.0 (subst (λ (l : List ℕ). TextGiven l place before r after) w.1 g)

-- ---- under a policy

module _ (p : Policy) (rule : List ℕ) (place : ℕ) (before : List ℕ) where
  pub not_loaded : (Loadable p → ⊥) → ImportGiven p rule place before (Err (record { number = 8; line = 0 })) before
  unfolding said_import
  not_loaded f = record { unloaded = λ g. (refl, refl); loaded = λ l. absurd (f l) }

  pub under_policy : Loadable p → (r : Result ℕ Refusal) (after : List ℕ) → RuleGiven p.tables rule place before r after
      → ImportGiven p rule place before r after
  unfolding policy_value
  under_policy l r after g =
      record {
        unloaded = λ f. absurd (f l);
        loaded = λ m.
            g m.declared.widths (ap (λ (x : Policy). x.tables) m.value)
            (loaded_well_formed m.text m.declared m.loads).tables.each;
      }
