-- The reply of a listing and the buffer after it, case by case.
use mathlib.Core.Path.{◌≡◌, refl, ap, ◌∙◌, subst}
use mathlib.Core.Bool.{true}
use mathlib.Core.List.{List, ◌++◌}
use Prim.Native.Nat.{ℕ, ◌≤◌, ◌<◌}
use native.Mathlib.Omega.{arith}
use borrow.Author.Tests.{lt-ltb, le-ltb}
use lib.ListN.{length, drop}
use Rattle.std.specs.Prelude.{Result, Ok, Err}
use Rattle.theory.specs.Query.{Query}
use Rattle.theory.specs.Executable.Label.{labels}
use Rattle.model.specs.declared.Policy.{Policy}
use Rattle.model.specs.declared.Refusal.{Refusal}
use Rattle.query_text.specs.Text.{Reading, refused, accepted, read}
use Rattle.validity.specs.Loadable.{Loadable}
use Rattle.word_list.specs.Value.{words_value}
use Rattle.labelling.specs.declared.Labels.{Labels}
use Rattle.word_list.specs.declared.Words.{Words}
use Rattle.word_list.specs.Order.{ascending}
use Rattle.word_list.proofs.Value.{count_is, words_are}
use Rattle.label_lists.specs.Listing.{said_listing, not_listed, given, listed, list_reading, Lists, LabelsGiven}
use Rattle.label_lists.proofs.Asked.{Labelled}
use Rattle.label_lists.proofs.Copied.{Copied}

not_lists : (before : List ℕ) (n k : ℕ) → Lists (Err (record { number = n; line = k })) before (not_listed before n k)
unfolding said_listing not_listed
not_lists before n k = record { reply = refl; buffer = refl }

-- ---- the labels and the buffer

module _ (l : Words) (ws : List ℕ) (e : l ≡ words_value ws) where
  pub lists_short : {before : List ℕ} → length before < l.count → Lists (Err (record { number = 10; line = 0 })) before (listed before ws)
  unfolding listed
  lists_short {before} h = rw (lt-ltb (length before) (length ws) (omega (arith, count_is l ws e))) (not_lists before 10 0)

  pub lists_given : (before : List ℕ) {after : List ℕ} → l.count ≤ length before → after ≡ Copied l.words l.count before
      → Lists (Ok l.count) after (listed before ws)
  unfolding said_listing listed given
  lists_given before h c =
      rw (le-ltb (length before) (length ws) (omega (arith, count_is l ws e)))
      (record {
        reply = λ i. record { given = true; count = count_is l ws e i; number = 0; line = 0 };
        buffer =
            c ∙ ap (λ (v : List ℕ). v ++ drop l.count before) (words_are l ws e)
            ∙ ap (λ (k : ℕ). ws ++ drop k before) (count_is l ws e);
      })

-- ---- the policy value and the text

-- under a loaded policy a well-formed text gets the labels of its query, or 10
pub labels_listed : {p : Policy} (l : Loadable p) {text before : List ℕ} {r : Result ℕ Refusal} {after : List ℕ}
    → LabelsGiven p text before r after → (Q : Query) → read l.declared.widths text ≡ accepted Q
    → Lists r after (listed before (ascending (labels l.declared.views Q)))
unfolding list_reading
labels_listed l {before = before} {r} {after} g Q e =
    subst (λ (v : Reading). Lists r after (list_reading l.declared before v)) e (g.loaded l)

module _ {p : Policy} {text before : List ℕ} where
  pub unlisted : (Loadable p → ⊥) → LabelsGiven p text before (Err (record { number = 8; line = 0 })) before
  unlisted n = record { unloaded = λ m. not_lists before 8 0; loaded = λ l. absurd (n l) }

  pub text_refused : {n k : ℕ} → Loadable p → ((l : Loadable p) → read l.declared.widths text ≡ refused n k)
      → LabelsGiven p text before (Err (record { number = n; line = k })) before
  unfolding list_reading
  text_refused {n} {k} is h = record { unloaded = λ m. absurd (m is); loaded = λ l. rw (h l) (not_lists before n k) }

  pub text_listed : {r : Result ℕ Refusal} {after : List ℕ} (v : Labels) → Loadable p → ((l : Loadable p) → Labelled l.declared text v)
      → ((ws : List ℕ) → v.words ≡ words_value ws → Lists r after (listed before (ascending ws)))
      → LabelsGiven p text before r after
  unfolding list_reading
  text_listed v is h lists =
      record {
        unloaded = λ m. absurd (m is);
        loaded = λ l. rw (h l).reads (lists (labels l.declared.views (h l).query) (h l).held.is);
      }
