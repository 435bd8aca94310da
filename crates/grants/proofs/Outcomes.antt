-- What the reply to `smallest_grant` means over archives, that it is the only one, its numbers, and when the buffer stays.
use mathlib.Core.Path.{◌≡◌, refl, sym, ap, subst, ◌∙◌}
use mathlib.Core.Bool.{Bool, true, false, cond}
use mathlib.Core.Logic.{◌↔◌, ◌≢◌}
use mathlib.Core.List.Memᴰ
use mathlib.Core.List.{List, [], ◌∷◌, List-discrete}
use Prim.Native.Nat.{ℕ, ◌-◌, ◌<◌}
use native.Mathlib.Decide.{ℕ_discrete, dec_lt}
use native.Mathlib.Omega.{arith}
use lib.Dec.{T}
use lib.ListN.{length}
use Rattle.std.specs.Prelude.{Option, Some, None, Result, Ok, Err}
use Rattle.theory.specs.Query.{Query, ◌∈◌}
use Rattle.theory.specs.Executable.Label.{labels}
use Rattle.theory.specs.Executable.Test.{any}
use Rattle.theory.proofs.Lists.{none_long}
use Rattle.theory.proofs.Pigeonhole.{member}
use Rattle.words.proofs.Answers.{holds_true, either}
use Rattle.model.specs.Limits.{up_to}
use Rattle.model.specs.declared.Policy.{Policy}
use Rattle.model.specs.declared.Refusal.{Refusal}
use Rattle.model.proofs.Limits.{up_to_iff}
use Rattle.model.proofs.FirstFault.{found_in}
use Rattle.query_text.specs.Text.{Reading, refused, accepted, read}
use Rattle.query_text.proofs.Numbers.{read_refuses}
use Rattle.policy_text.specs.Declared.{Declared, PartitionDetermines}
use Rattle.validity.specs.Loadable.{Loadable}
use Rattle.desk.specs.Outcomes.{explaining_numbers}
use Rattle.desk.proofs.Unique.{Code, same?, either_way, both?, one_refusal}
use Rattle.grants.specs.Smallest.{Smallest, Hopeless}
use Rattle.grants.specs.Granting.{Word, says_list, says_none, says_refused, SaidGranting, said_list, said_none, said_refused, said_granting}
use Rattle.grants.specs.Granting.{Owed, refusal, nothing, list, some_bare, owed_for, owed, Replies, Written, Gives, GrantGiven}
use Rattle.grants.specs.Outcomes.{Asked, Outcomes}
use Rattle.grants.proofs.Added.{determines_with_none, smallest_exists_not_hopeless}
use Rattle.grants.proofs.Unique.{smallest_unique, smallest_settled, settled_smallest}

-- ---- what a reply says tells it from every other

word_code : Word → ℕ
word_code says_list = 0
word_code says_none = 1
word_code says_refused = 2

said_code : SaidGranting → List ℕ
said_code s = word_code s.word ∷ s.count ∷ s.number ∷ s.line ∷ []

grantings : Code (Result (Option ℕ) Refusal)
unfolding said_granting said_code word_code
grantings = record { code = λ a. said_code (said_granting a); apart = go }
  where
    go : (a b : Result (Option ℕ) Refusal) → said_code (said_granting a) ≡ said_code (said_granting b) → a ≡ b
    go (Ok (Some n)) (Ok (Some m)) e = cc
    go (Ok (Some n)) (Ok None) e = absurd (let z : ◌≡◌ {A = ℕ} 0 1 = cc in omega arith)
    go (Ok (Some n)) (Err d) e = absurd (let z : ◌≡◌ {A = ℕ} 0 2 = cc in omega arith)
    go (Ok None) (Ok (Some m)) e = absurd (let z : ◌≡◌ {A = ℕ} 1 0 = cc in omega arith)
    go (Ok None) (Ok None) e = refl
    go (Ok None) (Err d) e = absurd (let z : ◌≡◌ {A = ℕ} 1 2 = cc in omega arith)
    go (Err d) (Ok (Some m)) e = absurd (let z : ◌≡◌ {A = ℕ} 2 0 = cc in omega arith)
    go (Err d) (Ok None) e = absurd (let z : ◌≡◌ {A = ℕ} 2 1 = cc in omega arith)
    go (Err c) (Err d) e = ap Err (one_refusal (cc) (cc))

said_apart : (a b : Result (Option ℕ) Refusal) → said_granting a ≡ said_granting b → a ≡ b
unfolding grantings said_code
said_apart a b e = grantings.apart a b (ap said_code e)

-- ---- one reply

module _ (r t : Result (Option ℕ) Refusal) (before after then : List ℕ) where
  same_reply : {s : SaidGranting} {held : List ℕ} → Replies r after s held → Replies t then s held → (r ≡ t) × (after ≡ then)
  same_reply g h = (said_apart r t (g.reply ∙ sym h.reply), g.buffer ∙ sym h.buffer)

  same_written : (added : List ℕ) → Written r before after added → Written t before then added → (r ≡ t) × (after ≡ then)
  same_written added g h = go (dec_lt (length before) (length added))
    where
      go : Dec (length before < length added) → (r ≡ t) × (after ≡ then)
      go (yes s) = same_reply (g.short s) (h.short s)
      go (no n) = same_reply (g.room (omega (arith, n))) (h.room (omega (arith, n)))

  same_given : (d : Declared) (i : ℕ) (o : Owed) → Gives d i r before after o → Gives d i t before then o → (r ≡ t) × (after ≡ then)
  same_given d i (refusal number line) g h = same_reply g h
  same_given d i (nothing Q) g h = same_reply g.0 h.0
  same_given d i (list Q) (k, small, g) (l, smaller, h) =
      same_written k g (subst (Written t before then) (smallest_unique d i Q l k smaller small) h)

-- ---- the words

said_number : {s t : SaidGranting} → s ≡ t → word_code s.word ≡ word_code t.word
said_number e = ap (λ (s : SaidGranting). word_code s.word) e

list≢none : {n : ℕ} → said_list n ≡ said_none → ⊥
unfolding word_code
list≢none e = omega (arith, said_number e)

refused≢none : {n k : ℕ} → said_refused n k ≡ said_none → ⊥
unfolding word_code
refused≢none e = omega (arith, said_number e)

refused≢list : {n k m : ℕ} → said_refused n k ≡ said_list m → ⊥
unfolding word_code
refused≢list e = omega (arith, said_number e)

module _ (r : Result (Option ℕ) Refusal) (before after added : List ℕ) (w : Written r before after added) where
  -- a list or 10, and never `none`
  written_some : said_granting r ≡ said_none → ⊥
  written_some e = go (dec_lt (length before) (length added))
    where
      go : Dec (length before < length added) → ⊥
      go (yes s) = refused≢none (sym (w.short s).reply ∙ e)
      go (no n) = list≢none (sym (w.room (omega (arith, n))).reply ∙ e)

  -- a list of no view is given exactly where there is none to add
  written_empty : (said_granting r ≡ said_list 0) ↔ (added ≡ [])
  written_empty = (λ e. go e (dec_lt (length before) (length added)), λ e. given e)
    where
      go : said_granting r ≡ said_list 0 → Dec (length before < length added) → added ≡ []
      go e (yes s) = absurd (refused≢list (sym (w.short s).reply ∙ e))
      go e (no n) = none_long added (ap (λ (s : SaidGranting). s.count) (sym (w.room (omega (arith, n))).reply ∙ e))

      given : added ≡ [] → said_granting r ≡ said_list 0
      given e =
          let none : length added ≡ 0 = ap length e in (w.room (omega (arith, none))).reply ∙ ap said_list none

-- ---- over archives

module _ {p : Policy} {l : Loadable p} {n : ℕ} {text : List ℕ} {Q : Query} (a : Asked p l n text Q) where
  abbrev d : Declared
  d = l.declared

  abbrev bare : Bool
  bare = some_bare (labels d.views Q)

  owed_is : owed d n text ≡ cond bare (nothing Q) (list Q)
  unfolding owed owed_for
  owed_is =
      let among = holds_true (up_to (length d.partitions) n) ((up_to_iff (length d.partitions) n).1 (a.from_one, a.among)) in
      rw (← among, a.reads) refl

  module _ (r : Result (Option ℕ) Refusal) (before after : List ℕ) where
    none_iff : (b : Bool) → Gives d (n - 1) r before after (cond b (nothing Q) (list Q)) → (said_granting r ≡ said_none) ↔ T b
    none_iff true g = (λ e. tt, λ t. g.0.reply)
    none_iff false (added, small, w) = (λ e. written_some r before after added w e, λ t. absurd t)

    hopeless_iff : (b : Bool) → Gives d (n - 1) r before after (cond b (nothing Q) (list Q))
        → (said_granting r ≡ said_none) ↔ Hopeless d (n - 1) Q
    hopeless_iff true g = (λ e. g.1, λ h. g.0.reply)
    hopeless_iff false (added, small, w) =
        (λ e. absurd (written_some r before after added w e), λ h. absurd (smallest_exists_not_hopeless d (n - 1) Q added small h))

    empty_iff : (b : Bool) → Gives d (n - 1) r before after (cond b (nothing Q) (list Q))
        → (said_granting r ≡ said_list 0) ↔ PartitionDetermines d (n - 1) Q
    empty_iff true g = (
      λ e. absurd (list≢none (sym e ∙ g.0.reply)),
      λ p. absurd (g.1 [] (λ v m. absurd (Memᴰ.not-nil m)) ((determines_with_none d (n - 1) Q).1 p)),
    )
    empty_iff false (added, small, w) =
        let k = written_empty r before after added w in (
          λ e. settled_smallest d (n - 1) Q (subst (Smallest d (n - 1) Q) (k.0 e) small),
          λ p. k.1 (smallest_settled d (n - 1) Q added small p),
        )

  given : {r : Result (Option ℕ) Refusal} {before after : List ℕ} → GrantGiven p n text before r after
      → Gives d (n - 1) r before after (cond bare (nothing Q) (list Q))
  given {r} {before} {after} g = subst (Gives d (n - 1) r before after) owed_is (g.loaded l)

-- ---- numbers and the buffer

module _ (d : Declared) (n : ℕ) (text : List ℕ) (r : Result (Option ℕ) Refusal) (before after : List ℕ) where
  -- a refusal's number is one of the operation's
  abbrev Numbered : Owed → Type 0
  Numbered o = Gives d (n - 1) r before after o → (said_granting r).word ≡ says_refused → (said_granting r).number ∈ explaining_numbers

  refused_by : {m k : ℕ} {held : List ℕ} → m ∈ explaining_numbers → Replies r after (said_refused m k) held
      → (said_granting r).number ∈ explaining_numbers
  refused_by x g = subst (λ (j : ℕ). j ∈ explaining_numbers) (sym (ap (λ (s : SaidGranting). s.number) g.reply)) x

  query_numbered : (Q : Query) (b : Bool) → Numbered (cond b (nothing Q) (list Q))
  unfolding word_code any
  query_numbered Q true g e = absurd (omega (arith, ap (λ (s : SaidGranting). word_code s.word) g.0.reply, ap word_code e))
  query_numbered Q false (added, small, w) e = go (dec_lt (length before) (length added))
    where
      go : Dec (length before < length added) → (said_granting r).number ∈ explaining_numbers
      go (yes s) = refused_by (found_in explaining_numbers 10 tt) (w.short s)
      go (no m) = absurd (omega (arith, said_number (w.room (omega (arith, m))).reply, ap word_code e))

  reading_numbered : (v : Reading) → read d.widths text ≡ v → Numbered (owed_for d v)
  unfolding owed_for
  reading_numbered (refused m k) q g e =
      refused_by (Memᴰ.tail (Memᴰ.tail (Memᴰ.append_left (10 ∷ []) (read_refuses d.widths text m k q)))) g
  reading_numbered (accepted Q) q g e = query_numbered Q (some_bare (labels d.views Q)) g e

  owed_numbered : Numbered (owed d n text)
  unfolding owed any
  owed_numbered =
      either Numbered (up_to (length d.partitions) n) (reading_numbered (read d.widths text) refl)
      (λ g e. refused_by (found_in explaining_numbers 4 tt) g)

module _ (d : Declared) (i : ℕ) (r : Result (Option ℕ) Refusal) (before after : List ℕ) (ne : (said_granting r).word ≢ says_list) where
  abbrev Stays : Type 0
  Stays = ((said_granting r).count ≡ 0) × (after ≡ before)

  nothing_written : (o : Owed) → Gives d i r before after o → Stays
  nothing_written (refusal number line) g = (ap (λ (s : SaidGranting). s.count) g.reply, g.buffer)
  nothing_written (nothing Q) g = (ap (λ (s : SaidGranting). s.count) g.0.reply, g.0.buffer)
  nothing_written (list Q) (added, small, w) = go (dec_lt (length before) (length added))
    where
      go : Dec (length before < length added) → Stays
      go (yes s) = (ap (λ (x : SaidGranting). x.count) (w.short s).reply, (w.short s).buffer)
      go (no m) = absurd (ne (ap (λ (s : SaidGranting). s.word) (w.room (omega (arith, m))).reply))

-- ---- all of it

pub outcomes : Outcomes
outcomes = record {
  smallest_unique = smallest_unique;
  one_outcome = λ p n text before r t after then g h.
      either_way {L = Loadable p} (both? (same? grantings r t) (List-discrete ℕ_discrete after then))
      (λ l. same_given r t before after then l.declared (n - 1) (owed l.declared n text) (g.loaded l) (h.loaded l))
      (λ f. same_reply r t before after then (g.unloaded f) (h.unloaded f));
  empty_exactly = λ p l n text before r after Q g a. empty_iff a r before after (bare a) (given a g);
  none_exactly = λ p l n text before r after Q g a. hopeless_iff a r before after (bare a) (given a g);
  none_bare = λ p l n text before r after Q g a. none_iff a r before after (bare a) (given a g);
  granting_numbers = λ p n text before r after g e.
      either_way {L = Loadable p} (member ℕ_discrete (said_granting r).number explaining_numbers)
      (λ l. owed_numbered l.declared n text r before after (g.loaded l) e)
      (λ f. Memᴰ.head (ap (λ (s : SaidGranting). s.number) (g.unloaded f).reply));
  granting_buffer_stays = λ p n text before r after g ne.
      either_way {L = Loadable p} (both? (ℕ_discrete (said_granting r).count 0) (List-discrete ℕ_discrete after before))
      (λ l. nothing_written l.declared (n - 1) r before after ne (owed l.declared n text) (g.loaded l))
      (λ f. (ap (λ (s : SaidGranting). s.count) (g.unloaded f).reply, (g.unloaded f).buffer));
}
