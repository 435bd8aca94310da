-- Each operation turns back by one of its listed numbers.
use mathlib.Core.Path.{◌≡◌, refl, sym, ap, subst, ◌∙◌}
use mathlib.Core.Bool.{false, false≢true}
use mathlib.Core.List.Memᴰ
use mathlib.Core.List.{List, [], ◌∷◌}
use Prim.Native.Nat.{ℕ, ◌-◌}
use native.Mathlib.Decide.{ℕ_discrete}
use native.Mathlib.Omega.{arith}
use lib.Dec.{eqb}
use lib.ListN.{length, get_or}
use Rattle.theory.specs.Query.{◌∈◌}
use Rattle.theory.specs.Executable.Label.{labels}
use Rattle.word_list.specs.Order.{ascending}
use Rattle.theory.specs.Executable.Test.{any}
use Rattle.theory.proofs.Pigeonhole.{member}
use Rattle.words.proofs.Answers.{either}
use Rattle.model.specs.Limits.{up_to}
use Rattle.model.specs.declared.Policy.{Policy}
use Rattle.std.specs.Prelude.{Result, Ok, Err}
use Rattle.model.specs.declared.Refusal.{Refusal}
use Rattle.model.proofs.FirstFault.{found_in}
use Rattle.query_text.specs.Text.{Reading, refused, accepted, read}
use Rattle.query_text.proofs.Numbers.{read_refuses}
use Rattle.policy_text.specs.Declared.{Declared}
use Rattle.policy_text.specs.Policy.{views_word}
use Rattle.policy_text.specs.Text.{policy_numbers, load}
use Rattle.policy_text.proofs.Numbers.{load_refuses}
use Rattle.validity.specs.Loadable.{Loadable}
use Rattle.load.specs.Value.{loading_value}
use Rattle.load.proofs.Accepted.{not_loaded}
use Rattle.explain.specs.Explanation.{explained}
use Rattle.sessions.specs.declared.opening.Session.{Session}
use Rattle.sessions.specs.declared.replies.Decision.{Decision}
use Rattle.sessions.specs.Reply.{Said, said}
use Rattle.sessions.specs.Reply.{refused as turned}
use Rattle.sessions.specs.Opening.{Opened}
use Rattle.sessions.specs.Deciding.{unfit, still_open, Verdict, turned_back, answered, decide_query, decide_under, Decided}
use Rattle.label_lists.specs.Buffer.{too_short}
use Rattle.label_lists.specs.Listing.{SaidListing, said_listing, Listed, not_listed, given, listed, list_reading, LabelsGiven}
use Rattle.explanations.specs.declared.Explaining.{Explaining}
use Rattle.explanations.specs.Explaining.{SaidExplaining, said_explaining, Explained, not_explained, explained_by, explain_reading, explain_under}
use Rattle.explanations.specs.Explaining.{ExplanationGiven}
use Rattle.desk.specs.Outcomes.{deciding_numbers, labels_numbers, explaining_numbers}
use Rattle.sessions.specs.Opening.{all_open}
use Rattle.desk.proofs.ReplyWords.{turned_yes, turned_no}
use Rattle.desk.proofs.Unique.{either_way}

-- ---- loading and opening

pub loading_numbers : (text : List ℕ) (r : Refusal) → Err r ≡ loading_value (load text) → r.number ∈ policy_numbers
loading_numbers text r e = load_refuses text r.number r.line (not_loaded text (Err r) e r refl)

pub opening_numbers : (p : Policy) (r : Refusal) → Opened p (Err r) → (r.number ≡ 8) × (r.line ≡ 0)
opening_numbers p r g =
    let none : Loadable p → ⊥ = λ l. let opened : Err r ≡ Ok (all_open l.declared) = g.opened l in grind arith in
    let same : Err r ≡ Err (record { number = 8; line = 0 }) = g.turned none in
    let is : r ≡ record { number = 8; line = 0 } = grind arith in
    (ap (λ (x : Refusal). x.number) is, ap (λ (x : Refusal). x.line) is)

-- ---- deciding

-- a refusal's number is one of the operation's
abbrev DecidingNumber : Said → Type 0
DecidingNumber s = s.word ≡ turned → s.number ∈ deciding_numbers

under_deciding : (d : Declared) (s : Session) (text : List ℕ) → DecidingNumber (decide_under d s text).says
unfolding decide_under decide_query turned_back answered any
under_deciding d s text =
    either (λ (v : Verdict). DecidingNumber v.says) (unfit d s) (λ e. found_in deciding_numbers 9 tt)
    (by_reading (read d.widths text) refl)
  where
    by_reading : (v : Reading) → read d.widths text ≡ v → DecidingNumber (decide_query d s v).says
    by_reading (refused n k) q = λ e. Memᴰ.tail (Memᴰ.tail (read_refuses d.widths text n k q))
    by_reading (accepted Q) q =
        either (λ (v : Verdict). DecidingNumber v.says) (eqb (still_open d Q s.mask) 0) (λ e. absurd (turned_no refl (sym e)))
        (λ e. absurd (turned_yes refl (sym e)))

pub deciding_numbers_lem : (p : Policy) (s : Session) (text : List ℕ) (r : Decision) → Decided p s text r
    → (said r.reply).word ≡ turned → (said r.reply).number ∈ deciding_numbers
unfolding turned_back
deciding_numbers_lem p s text r g e =
    either_way {L = Loadable p} (member ℕ_discrete (said r.reply).number deciding_numbers)
    (λ l. subst DecidingNumber (sym (g.loaded l).reply) (under_deciding l.declared s text) e)
    (λ f. Memᴰ.head (ap (λ (x : Said). x.number) (g.unloaded f).reply))

-- ---- labels

abbrev LabelsNumber : SaidListing → Type 0
LabelsNumber s = s.given ≡ false → s.number ∈ labels_numbers

reading_labels : (d : Declared) (text before : List ℕ) (v : Reading) → read d.widths text ≡ v
    → LabelsNumber (list_reading d before v).says
unfolding list_reading listed not_listed given any
reading_labels d text before (refused n k) q =
    λ e. Memᴰ.tail (Memᴰ.append_left (10 ∷ []) (read_refuses d.widths text n k q))
reading_labels d text before (accepted Q) q =
    either (λ (o : Listed). LabelsNumber o.says) (too_short before (ascending (labels d.views Q))) (λ e. found_in labels_numbers 10 tt)
    (λ e. absurd (false≢true (sym e)))

pub labels_numbers_lem : (p : Policy) (text before : List ℕ) (r : Result ℕ Refusal) (after : List ℕ) → LabelsGiven p text before r after
    → (said_listing r).given ≡ false → (said_listing r).number ∈ labels_numbers
unfolding not_listed
labels_numbers_lem p text before r after g e =
    either_way {L = Loadable p} (member ℕ_discrete (said_listing r).number labels_numbers)
    (λ l. subst LabelsNumber (sym (g.loaded l).reply) (reading_labels l.declared text before (read l.declared.widths text) refl) e)
    (λ f. Memᴰ.head (ap (λ (x : SaidListing). x.number) (g.unloaded f).reply))

-- ---- explanations

abbrev ExplainingNumber : SaidExplaining → Type 0
ExplainingNumber s = s.given ≡ false → s.number ∈ explaining_numbers

under_explaining : (d : Declared) (n : ℕ) (text before : List ℕ) → ExplainingNumber (explain_under d n text before).says
unfolding explain_under explain_reading explained_by not_explained any
under_explaining d n text before =
    either (λ (o : Explained). ExplainingNumber o.says) (up_to (length d.partitions) n) (by_reading (read d.widths text) refl)
    (λ e. found_in explaining_numbers 4 tt)
  where
    by_reading : (v : Reading) → read d.widths text ≡ v → ExplainingNumber (explain_reading d n before v).says
    by_reading (refused m k) q =
        λ e. Memᴰ.tail (Memᴰ.tail (Memᴰ.append_left (10 ∷ []) (read_refuses d.widths text m k q)))
    by_reading (accepted Q) q =
        let granted = views_word (get_or d.partitions (n - 1) []) in
        either (λ (o : Explained). ExplainingNumber o.says) (too_short before (explained granted (labels d.views Q)))
        (λ e. found_in explaining_numbers 10 tt) (λ e. absurd (false≢true (sym e)))

pub explaining_numbers_lem : (p : Policy) (n : ℕ) (text before : List ℕ) (r : Result Explaining Refusal) (after : List ℕ)
    → ExplanationGiven p n text before r after → (said_explaining r).given ≡ false → (said_explaining r).number ∈ explaining_numbers
unfolding not_explained
explaining_numbers_lem p n text before r after g e =
    either_way {L = Loadable p} (member ℕ_discrete (said_explaining r).number explaining_numbers)
    (λ l. subst ExplainingNumber (sym (g.loaded l).reply) (under_explaining l.declared n text before) e)
    (λ f. Memᴰ.head (ap (λ (x : SaidExplaining). x.number) (g.unloaded f).reply))
