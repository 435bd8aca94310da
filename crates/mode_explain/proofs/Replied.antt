-- What the reply of `explain` says of the query text, and the page that follows from it.
use mathlib.Core.Path.{◌≡◌, refl, sym, ap, subst}
use mathlib.Core.Bool.{Bool, true, false, cond}
use mathlib.Core.List.{List, []}
use mathlib.Core.Logic.{inl}
use Prim.Native.Nat.{ℕ, ◌-◌, ◌≤◌}
use native.Mathlib.Nat.{lt_of_lt_of_le}
use native.Mathlib.Omega.{arith}
use borrow.Author.Tests.{le-ltb}
use lib.ListN.{length, take, drop, get_or, length-append}
use lib.Pow.{pow_mono}
use lib.Seq.{take_at}
use Rattle.std.specs.Prelude.{Result, Ok, Err}
use Rattle.theory.specs.Query.{Query}
use Rattle.theory.specs.Executable.Label.{labels}
use Rattle.model.specs.Limits.{most_lines, up_to}
use Rattle.model.specs.declared.Policy.{Policy}
use Rattle.model.specs.declared.Refusal.{Refusal}
use Rattle.query_text.specs.Text.{Reading, refused, accepted, read}
use Rattle.query_text.proofs.Accepted.{accepted_well_read}
use Rattle.policy_text.specs.Declared.{Declared}
use Rattle.policy_text.specs.Policy.{views_word}
use Rattle.policy_text.specs.Text.{load}
use Rattle.policy_text.specs.Text.{refused as refused_policy, accepted as accepted_policy}
use Rattle.policy_text.specs.WellFormed.{WellFormed}
use Rattle.validity.specs.Loadable.{Loadable}
use Rattle.labelling.specs.Settled.{settled}
use Rattle.labelling.proofs.Partitions.{label_views}
use Rattle.labelling.proofs.Posing.{few_labels}
use Rattle.explain.specs.Explanation.{explained}
use Rattle.explanations.specs.Explaining.{said_explaining, Explained, not_explained, explained_by, explain_reading, ExplanationGiven}
use Rattle.explanations.specs.Explaining.{explain_under as explains_under}
use Rattle.explanations.specs.declared.Explaining.{Explaining}
use Rattle.labelling.proofs.Loaded.{loaded_to}
use Rattle.explanations.proofs.Narrow.{each_most, most_length, explained_most}
use Rattle.page.specs.Sizes.{Shown}
use Rattle.page.specs.Refusal.{policy_refused, query_refused}
use Rattle.page.proofs.Texts.{query_shown}
use Rattle.mode_explain.specs.ExplainPage.{explanation, explain_read, explain_under, explain_loaded, explain_page}

-- ---- what is said, and the page that says it

module _ (d : Declared) (good : WellFormed d) (n : ℕ) (text before : List ℕ) (room : length before ≡ most_lines) where
  shows : Explained → List ℕ
  shows o =
      cond o.says.given (explanation d.views o.says.settles (take o.says.count o.holds))
      (query_refused text o.says.number o.says.line)

  -- the words are few and stand in the buffer, a line at fault is in the text, and the page is the one laid down
  record Fine (page : List ℕ) (o : Explained) : Type 0 where
    pub few : o.says.count ≤ most_lines
    pub inside : o.says.count ≤ length o.holds
    pub shown : Shown text o.says.line
    pub says_page : shows o ≡ page

  turned : (k line : ℕ) → Shown text line → Fine (query_refused text k line) (not_explained before k line)
  unfolding not_explained shows
  turned k line h = record { few = omega arith; inside = omega arith; shown = h; says_page = refl }

  given : (settles : Bool) (ws : List ℕ) → length ws ≤ most_lines → Fine (explanation d.views settles ws) (explained_by before settles ws)
  unfolding explained_by shows
  given settles ws h =
      rw (le-ltb (length before) (length ws) (omega (arith, room)))
      (record {
        few = h;
        inside = simp length-append (omega arith);
        shown = inl refl;
        says_page = ap (explanation d.views settles) (take_at ws (drop (length ws) before) _ refl);
      })

  few_words : (granted : ℕ) (Q : Query) → read d.widths text ≡ accepted Q → length (explained granted (labels d.views Q)) ≤ most_lines
  few_words granted Q e =
      let fits = (accepted_well_read d.widths text Q e).fits in
      most_length
      (explained_most granted
      (each_most most_lines (labels d.views Q) (few_labels d.views d.widths text Q e)
      (λ w m. lt_of_lt_of_le (label_views d good Q fits w m) (pow_mono good.views.few))))

  read_fine : (v : Reading) → read d.widths text ≡ v → Fine (explain_read d n text v) (explain_reading d n before v)
  unfolding explain_read explain_reading
  read_fine (refused k line) e = turned k line (query_shown d.widths text k line e)
  read_fine (accepted Q) e =
      let granted = views_word (get_or d.partitions (n - 1) []) in
      given (settled granted (labels d.views Q)) (explained granted (labels d.views Q)) (few_words granted Q e)

  under_fine : Fine (explain_under d n text) (explains_under d n text before)
  unfolding explain_under explains_under
  under_fine = go (up_to (length d.partitions) n)
    where
      go : (b : Bool)
          → Fine (cond b (explain_read d n text (read d.widths text)) (query_refused text 4 0))
          (cond b (explain_reading d n before (read d.widths text)) (not_explained before 4 0))
      go true = read_fine (read d.widths text) refl
      go false = turned 4 0 (inl refl)

-- ---- of a call with a buffer that has room for every explanation

module _ {p : Policy} {n : ℕ} {text before after : List ℕ} {r : Result Explaining Refusal} (g : ExplanationGiven p n text before r after)
    (room : length before ≡ most_lines) (l : Loadable p) where
  abbrev d : Declared
  d = l.declared

  good : WellFormed d
  good = (loaded_to l).good

  reply_fine : Fine d good n text before room (explain_under d n text) (record { says = said_explaining r; holds = after })
  reply_fine =
      let e = g.loaded l in
      subst (Fine d good n text before room (explain_under d n text)) (λ i. record { says = sym e.reply i; holds = sym e.buffer i })
      (under_fine d good n text before room)

  told_as : {t : Result Explaining Refusal} → r ≡ t → Fine d good n text before room (explain_under d n text) (record { says = said_explaining t; holds = after })
  told_as e = subst (λ (t : Result Explaining Refusal). Fine d good n text before room (explain_under d n text) (record { says = said_explaining t; holds = after })) e reply_fine

  abbrev pub Told : Bool → ℕ → Type 0
  Told settles count =
      (count ≤ most_lines) × (count ≤ length after) × (explanation d.views settles (take count after) ≡ explain_under d n text)

  pub told : {x : Explaining} → r ≡ Ok x → Told x.is_settled x.count
  unfolding said_explaining shows
  told e = let f = told_as e in (f.few, f.inside, f.says_page)

  pub not_told : {k line : ℕ} → r ≡ Err (record { number = k; line = line }) → Shown text line × (query_refused text k line ≡ explain_under d n text)
  unfolding said_explaining shows
  not_told e = let f = told_as e in (f.shown, f.says_page)

-- ---- how loading ended

pub page_refused : (policy : List ℕ) (n : ℕ) (query : List ℕ) (k line : ℕ) → load policy ≡ refused_policy k line
    → policy_refused policy k line ≡ explain_page policy n query
unfolding explain_page explain_loaded
page_refused policy n query k line e = rw e

pub page_accepted : (policy : List ℕ) (n : ℕ) (query : List ℕ) (d : Declared) → load policy ≡ accepted_policy d
    → explain_under d n query ≡ explain_page policy n query
unfolding explain_page explain_loaded
page_accepted policy n query d e = rw e
