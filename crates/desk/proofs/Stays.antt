-- Refusals leave the session and every lent buffer as they were; a fit session and a well-formed query get a yes or a no.
use mathlib.Core.Path.{◌≡◌, refl, sym, ap, subst, ◌∙◌}
use mathlib.Core.Logic.{◌⊎◌, inl, inr}
use mathlib.Core.Bool.{false, false≢true}
use mathlib.Core.List.{List, [], List-discrete}
use Prim.Native.Nat.{ℕ, ◌-◌}
use native.Mathlib.Decide.{ℕ_discrete}
use lib.Dec.{eqb}
use lib.ListN.{length, get_or}
use Rattle.std.specs.Prelude.{Result}
use Rattle.theory.specs.Query.{Query}
use Rattle.theory.specs.Executable.Label.{labels}
use Rattle.word_list.specs.Order.{ascending}
use Rattle.words.proofs.Answers.{either}
use Rattle.model.specs.Limits.{up_to}
use Rattle.model.specs.declared.Policy.{Policy}
use Rattle.model.specs.declared.Refusal.{Refusal}
use Rattle.query_text.specs.Text.{Reading, refused, accepted, read}
use Rattle.policy_text.specs.Declared.{Declared}
use Rattle.policy_text.specs.Policy.{views_word}
use Rattle.validity.specs.Loadable.{Loadable}
use Rattle.explain.specs.Explanation.{explained}
use Rattle.sessions.specs.declared.opening.Session.{Session}
use Rattle.sessions.specs.declared.replies.Decision.{Decision}
use Rattle.sessions.specs.Reply.{Said, said}
use Rattle.sessions.specs.Reply.{yes as affirmed, no as denied, refused as turned}
use Rattle.sessions.specs.Deciding.{unfit, still_open, Verdict, turned_back, answered, decide_query, decide_under, Decided}
use Rattle.label_lists.specs.Buffer.{too_short}
use Rattle.label_lists.specs.Listing.{SaidListing, said_listing, Listed, not_listed, given, listed, list_reading, LabelsGiven}
use Rattle.explanations.specs.declared.Explaining.{Explaining}
use Rattle.explanations.specs.Explaining.{SaidExplaining, said_explaining, Explained, not_explained, explained_by, explain_reading, explain_under}
use Rattle.explanations.specs.Explaining.{ExplanationGiven}
use Rattle.desk.proofs.ReplyWords.{turned_yes}
use Rattle.desk.proofs.Unique.{either_way, same_session?}

-- ---- deciding

abbrev Stays : Session → Verdict → Type 0
Stays s v = v.says.word ≡ turned → v.leaves ≡ s

under_stays : (d : Declared) (s : Session) (text : List ℕ) → Stays s (decide_under d s text)
unfolding decide_under turned_back
under_stays d s text = either (Stays s) (unfit d s) (λ e. refl) (by_reading (read d.widths text))
  where
    by_reading : (v : Reading) → Stays s (decide_query d s v)
    by_reading (refused n k) = λ e. refl
    by_reading (accepted Q) = either (Stays s) (eqb (still_open d Q s.mask) 0) (λ e. refl) (λ e. absurd (turned_yes refl (sym e)))

pub session_stays : (p : Policy) (s : Session) (text : List ℕ) (r : Decision) → Decided p s text r
    → (said r.reply).word ≡ turned → r.session ≡ s
unfolding turned_back
session_stays p s text r g e =
    either_way {L = Loadable p} (same_session? r.session s)
    (λ l. let k = g.loaded l in
    k.session ∙ under_stays l.declared s text (sym (ap (λ (x : Said). x.word) k.reply) ∙ e))
    (λ f. (g.unloaded f).session)

pub yes_or_no : (p : Policy) (l : Loadable p) (s : Session) (text : List ℕ) (r : Decision) → Decided p s text r
    → unfit l.declared s ≡ false → (Q : Query) → read l.declared.widths text ≡ accepted Q
    → ((said r.reply).word ≡ affirmed) ⊎ ((said r.reply).word ≡ denied)
unfolding decide_under decide_query answered
yes_or_no p l s text r g fit Q e =
    let d = l.declared in
    let says : Verdict → Type 0 = λ v. (v.says.word ≡ affirmed) ⊎ (v.says.word ≡ denied) in
    let k = rw (fit, e) at (g.loaded l) in
    subst (λ (x : Said). (x.word ≡ affirmed) ⊎ (x.word ≡ denied)) (sym k.reply)
    (either says (eqb (still_open d Q s.mask) 0) (inr refl) (inl refl))

-- ---- labels

abbrev Kept : List ℕ → Listed → Type 0
Kept before o = o.says.given ≡ false → o.holds ≡ before

reading_kept : (d : Declared) (before : List ℕ) (v : Reading) → Kept before (list_reading d before v)
unfolding list_reading listed not_listed given
reading_kept d before (refused n k) = λ e. refl
reading_kept d before (accepted Q) =
    either (Kept before) (too_short before (ascending (labels d.views Q))) (λ e. refl) (λ e. absurd (false≢true (sym e)))

pub labels_buffer_stays : (p : Policy) (text before : List ℕ) (r : Result ℕ Refusal) (after : List ℕ) → LabelsGiven p text before r after
    → (said_listing r).given ≡ false → after ≡ before
unfolding not_listed
labels_buffer_stays p text before r after g e =
    either_way {L = Loadable p} (List-discrete ℕ_discrete after before)
    (λ l. let k = g.loaded l in
    k.buffer
    ∙ reading_kept l.declared before (read l.declared.widths text) (sym (ap (λ (x : SaidListing). x.given) k.reply) ∙ e))
    (λ f. (g.unloaded f).buffer)

-- ---- explanations

abbrev Left : List ℕ → Explained → Type 0
Left before o = o.says.given ≡ false → o.holds ≡ before

under_left : (d : Declared) (n : ℕ) (text before : List ℕ) → Left before (explain_under d n text before)
unfolding explain_under explain_reading explained_by not_explained
under_left d n text before = either (Left before) (up_to (length d.partitions) n) (by_reading (read d.widths text)) (λ e. refl)
  where
    by_reading : (v : Reading) → Left before (explain_reading d n before v)
    by_reading (refused m k) = λ e. refl
    by_reading (accepted Q) =
        let granted = views_word (get_or d.partitions (n - 1) []) in
        either (Left before) (too_short before (explained granted (labels d.views Q))) (λ e. refl) (λ e. absurd (false≢true (sym e)))

pub explaining_buffer_stays : (p : Policy) (n : ℕ) (text before : List ℕ) (r : Result Explaining Refusal) (after : List ℕ)
    → ExplanationGiven p n text before r after → (said_explaining r).given ≡ false → after ≡ before
unfolding not_explained
explaining_buffer_stays p n text before r after g e =
    either_way {L = Loadable p} (List-discrete ℕ_discrete after before)
    (λ l. let k = g.loaded l in
    k.buffer ∙ under_left l.declared n text before (sym (ap (λ (x : SaidExplaining). x.given) k.reply) ∙ e))
    (λ f. (g.unloaded f).buffer)
