-- What the reply to `tell_apart` means over archives, its numbers, and when the buffer stays.
use mathlib.Core.Path.{◌≡◌, refl, sym, ap, subst, ◌∙◌}
use mathlib.Core.Bool.{Bool, true, false, cond}
use mathlib.Core.Logic.{◌↔◌, ◌≢◌}
use mathlib.Core.List.Memᴰ
use mathlib.Core.List.{List, [], ◌∷◌, List-discrete}
use Prim.Native.Nat.{ℕ, ◌-◌}
use native.Mathlib.Decide.{ℕ_discrete}
use native.Mathlib.Omega.{arith}
use borrow.Author.Tests.{le-ltb}
use lib.Dec.{T, ltb}
use lib.ListN.{length, get_or}
use Rattle.std.specs.Prelude.{Result}
use Rattle.theory.specs.Query.{Query, ◌∈◌}
use Rattle.theory.specs.Executable.Label.{labels}
use Rattle.theory.specs.Executable.Test.{any}
use Rattle.theory.proofs.Lists.{below_place, there}
use Rattle.theory.proofs.Pigeonhole.{member}
use Rattle.words.proofs.Answers.{holds_true, either}
use Rattle.model.specs.Limits.{up_to}
use Rattle.model.specs.declared.Policy.{Policy}
use Rattle.model.specs.declared.Refusal.{Refusal}
use Rattle.model.proofs.Limits.{up_to_iff}
use Rattle.model.proofs.FirstFault.{found_in}
use Rattle.query_text.specs.Text.{Reading, refused, accepted, read}
use Rattle.query_text.proofs.Accepted.{accepted_well_read}
use Rattle.query_text.proofs.Numbers.{read_refuses}
use Rattle.policy_text.specs.Declared.{Declared, PartitionDetermines}
use Rattle.policy_text.specs.Policy.{views_word}
use Rattle.validity.specs.Loadable.{Loadable}
use Rattle.labelling.specs.Settled.{settled}
use Rattle.labelling.proofs.Partitions.{settled_iff_partition}
use Rattle.labelling.proofs.Loaded.{loaded_to}
use Rattle.desk.specs.Outcomes.{explaining_numbers}
use Rattle.desk.proofs.Unique.{either_way, both?}
use Rattle.apart.specs.declared.telling.Telling.{Telling}
use Rattle.apart.specs.Archives.{Word, says_settled, says_apart, says_refused, SaidTelling, said_telling}
use Rattle.apart.specs.Archives.{Owed, refusal, settlement, archives, most_cells, owed_for, owed, Gives, ArchivesGiven}
use Rattle.apart.specs.Outcomes.{Asked, Outcomes}

-- ---- words

number_of : Word → ℕ
number_of says_settled = 0
number_of says_apart = 1
number_of says_refused = 2

same_word : (v w : Word) → number_of v ≡ number_of w → v ≡ w
unfolding number_of
same_word says_settled says_settled e = refl
same_word says_settled says_apart e = absurd (omega arith)
same_word says_settled says_refused e = absurd (omega arith)
same_word says_apart says_settled e = absurd (omega arith)
same_word says_apart says_apart e = refl
same_word says_apart says_refused e = absurd (omega arith)
same_word says_refused says_settled e = absurd (omega arith)
same_word says_refused says_apart e = absurd (omega arith)
same_word says_refused says_refused e = refl

apart≢settled : says_apart ≡ says_settled → ⊥
unfolding number_of
apart≢settled e = omega (arith, ap number_of e)

refused≢apart : says_refused ≡ says_apart → ⊥
unfolding number_of
refused≢apart e = omega (arith, ap number_of e)

refused≢settled : says_refused ≡ says_settled → ⊥
unfolding number_of
refused≢settled e = omega (arith, ap number_of e)

-- ---- what is owed, and what the reply then says

-- all of a reply but the number of rows
case_of : SaidTelling → List ℕ
case_of s = number_of s.word ∷ s.number ∷ s.line ∷ []

case_owed : Owed → List ℕ
case_owed (refusal number line) = 2 ∷ number ∷ line ∷ []
case_owed settlement = 0 ∷ 0 ∷ 0 ∷ []
case_owed (archives Q) = 1 ∷ 0 ∷ 0 ∷ []

module _ (d : Declared) (i : ℕ) (r : Result Telling Refusal) (before after : List ℕ) where
  given_case : (o : Owed) → Gives d i r before after o → case_of (said_telling r) ≡ case_owed o
  unfolding case_of case_owed number_of
  given_case (refusal number line) g = ap case_of g.reply
  given_case settlement g = ap case_of g.reply
  given_case (archives Q) g = ap case_of g.1

  nothing_written : (o : Owed) → Gives d i r before after o → (said_telling r).word ≢ says_apart
      → ((said_telling r).count ≡ 0) × (after ≡ before)
  nothing_written (refusal number line) g ne = (ap (λ (s : SaidTelling). s.count) g.reply, g.buffer)
  nothing_written settlement g ne = (ap (λ (s : SaidTelling). s.count) g.reply, g.buffer)
  nothing_written (archives Q) g ne = absurd (ne (ap (λ (s : SaidTelling). s.word) g.1))

-- a refusal's number is one of the operation's
abbrev TellingNumber : SaidTelling → Type 0
TellingNumber s = s.word ≡ says_refused → s.number ∈ explaining_numbers

module _ (d : Declared) (n : ℕ) (text : List ℕ) (r : Result Telling Refusal) (before after : List ℕ) where
  abbrev Numbered : Owed → Type 0
  Numbered o = Gives d (n - 1) r before after o → TellingNumber (said_telling r)

  refused_by : (m k : ℕ) → m ∈ explaining_numbers → Numbered (refusal m k)
  refused_by m k x g e = subst (λ (j : ℕ). j ∈ explaining_numbers) (sym (ap (λ (s : SaidTelling). s.number) g.reply)) x

  reading_numbered : (v : Reading) → read d.widths text ≡ v → Numbered (owed_for d n (length before) v)
  unfolding owed_for any
  reading_numbered (refused m k) q =
      refused_by m k (Memᴰ.tail (Memᴰ.tail (Memᴰ.append_left (10 ∷ []) (read_refuses d.widths text m k q))))
  reading_numbered (accepted Q) q =
      either Numbered (ltb (length before) most_cells) (refused_by 10 0 (found_in explaining_numbers 10 tt))
      (either Numbered (settled (views_word (get_or d.partitions (n - 1) [])) (labels d.views Q))
      (λ g e. absurd (refused≢settled (sym e ∙ ap (λ (s : SaidTelling). s.word) g.reply)))
      (λ g e. absurd (refused≢apart (sym e ∙ ap (λ (s : SaidTelling). s.word) g.1))))

  owed_numbered : Numbered (owed d n text (length before))
  unfolding owed any
  owed_numbered =
      either Numbered (up_to (length d.partitions) n) (reading_numbered (read d.widths text) refl)
      (refused_by 4 0 (found_in explaining_numbers 4 tt))

-- ---- settled and apart

module _ {p : Policy} {l : Loadable p} {n : ℕ} {text before : List ℕ} {Q : Query} (a : Asked p l n text before Q) where
  abbrev d : Declared
  d = l.declared

  abbrev is_settled : Bool
  is_settled = settled (views_word (get_or d.partitions (n - 1) [])) (labels d.views Q)

  owed_is : owed d n text (length before) ≡ cond is_settled settlement (archives Q)
  unfolding owed owed_for
  owed_is =
      let among = holds_true (up_to (length d.partitions) n) ((up_to_iff (length d.partitions) n).1 (a.from_one, a.among)) in
      rw (← among, a.reads, le-ltb (length before) most_cells a.room) refl

  settles_iff : T is_settled ↔ PartitionDetermines d (n - 1) Q
  settles_iff =
      let well = accepted_well_read d.widths text Q a.reads in
      let (vs, at) = below_place d.partitions (n - 1) (omega (arith, a.from_one, a.among)) in
      let s = settled_iff_partition d (loaded_to l).good (n - 1) vs at Q well.clear well.fits in
      subst (λ (ns : List ℕ). T (settled (views_word ns) (labels d.views Q)) ↔ PartitionDetermines d (n - 1) Q)
      (sym (there d.partitions (n - 1) [] at)) s

  word_is : {r : Result Telling Refusal} {after : List ℕ} → ArchivesGiven p n text before r after
      → (said_telling r).word ≡ cond is_settled says_settled says_apart
  word_is {r} {after} g = go is_settled (subst (Gives d (n - 1) r before after) owed_is (g.loaded l))
    where
      go : (b : Bool) → Gives d (n - 1) r before after (cond b settlement (archives Q))
          → (said_telling r).word ≡ cond b says_settled says_apart
      go true h = ap (λ (s : SaidTelling). s.word) h.reply
      go false h = ap (λ (s : SaidTelling). s.word) h.1

-- one of two words, by a test
says_first : (b : Bool) {w : Word} → w ≡ cond b says_settled says_apart → (w ≡ says_settled) ↔ T b
says_first true e = (λ q. tt, λ t. e)
says_first false e = (λ q. absurd (apart≢settled (sym e ∙ q)), λ t. absurd t)

says_second : (b : Bool) {w : Word} → w ≡ cond b says_settled says_apart → (w ≡ says_apart) ↔ (T b → ⊥)
says_second true e = (λ q. absurd (apart≢settled (sym q ∙ e)), λ f. absurd (f tt))
says_second false e = (λ q t. t, λ f. e)

-- ---- all of it

pub outcomes : Outcomes
unfolding case_of
outcomes = record {
  one_outcome = λ p n text before r t after then g h.
      let same = either_way {L = Loadable p} (List-discrete ℕ_discrete (case_of (said_telling r)) (case_of (said_telling t)))
      (λ l. given_case l.declared (n - 1) r before after (owed l.declared n text (length before)) (g.loaded l)
      ∙ sym (given_case l.declared (n - 1) t before then (owed l.declared n text (length before)) (h.loaded l)))
      (λ f. ap case_of (g.unloaded f).reply ∙ sym (ap case_of (h.unloaded f).reply)) in
      cases_same (said_telling r) (said_telling t) same;
  settled_exactly = λ p l n text before r after Q g a.
      let s = says_first (is_settled a) (word_is a g) in
      let k = settles_iff a in (λ e. k.0 (s.0 e), λ x. s.1 (k.1 x));
  apart_exactly = λ p l n text before r after Q g a.
      let s = says_second (is_settled a) (word_is a g) in
      let k = settles_iff a in (λ e x. s.0 e (k.1 x), λ f. s.1 (λ t. f (k.0 t)));
  telling_numbers = λ p n text before r after g e.
      either_way {L = Loadable p} (member ℕ_discrete (said_telling r).number explaining_numbers)
      (λ l. owed_numbered l.declared n text r before after (g.loaded l) e)
      (λ f. Memᴰ.head (ap (λ (s : SaidTelling). s.number) (g.unloaded f).reply));
  telling_buffer_stays = λ p n text before r after g ne.
      either_way {L = Loadable p}
      (both? (ℕ_discrete (said_telling r).count 0) (List-discrete ℕ_discrete after before))
      (λ l. nothing_written l.declared (n - 1) r before after (owed l.declared n text (length before)) (g.loaded l) ne)
      (λ f. (ap (λ (s : SaidTelling). s.count) (g.unloaded f).reply, (g.unloaded f).buffer));
}
  where
    cases_same : (s t : SaidTelling) → case_of s ≡ case_of t → (s.word ≡ t.word) × (s.number ≡ t.number) × (s.line ≡ t.line)
    cases_same s t e =
        let word : number_of s.word ≡ number_of t.word = cc in (same_word s.word t.word word, cc, cc)
