-- What the reply of `smallest_grant` says of what is owed, and the page that follows from it.
use mathlib.Core.Path.{◌≡◌, refl, sym, ap, subst}
use mathlib.Core.Bool.{Bool, true, false, cond}
use mathlib.Core.List.{List, [], ◌∷◌, ◌++◌}
use mathlib.Core.Logic.{inl}
use Prim.Native.Nat.{ℕ, ◌-◌, ◌≤◌}
use native.Mathlib.Omega.{arith}
use lib.ListN.{length, take, drop, length-append}
use lib.Seq.{take_at}
use Rattle.std.specs.Prelude.{Option, Some, None, Result, Ok, Err}
use Rattle.theory.specs.Query.{Line, Query}
use Rattle.theory.specs.Executable.Label.{labels}
use Rattle.text.specs.Lines.{newline}
use Rattle.text.specs.Names.{bytes}
use Rattle.model.specs.Limits.{most_views, up_to}
use Rattle.model.specs.declared.Policy.{Policy}
use Rattle.model.specs.declared.Refusal.{Refusal}
use Rattle.model.proofs.Limits.{up_to_iff}
use Rattle.query_text.specs.Text.{Reading, refused, accepted, read}
use Rattle.policy_text.specs.Declared.{Declared as Declares}
use Rattle.policy_text.specs.Text.{load}
use Rattle.policy_text.specs.Text.{refused as refused_policy, accepted as accepted_policy}
use Rattle.policy_text.proofs.Sizes.{partition_size}
use Rattle.validity.specs.Loadable.{Loadable}
use Rattle.labelling.proofs.Loaded.{loaded_to}
use Rattle.grants.specs.Smallest.{Smallest}
use Rattle.grants.specs.Granting.{SaidGranting, said_granting, said_list, said_none, said_refused, says_list, says_none, says_refused}
use Rattle.grants.specs.Granting.{Owed, refusal, nothing, list, owed, owed_for, some_bare, Gives, GrantGiven}
use Rattle.page.specs.Sizes.{Shown}
use Rattle.page.specs.Refusal.{policy_refused, query_refused}
use Rattle.page.proofs.Texts.{query_shown}
use Rattle.view_texts.specs.ViewTexts.{InRange, view_list}
use Rattle.mode_grant.specs.GrantPage.{grant_lines, none_line, PageOf, GrantUnder, GrantPage}

-- ---- the words of a reply

list≢none : says_list ≡ says_none → ⊥
list≢none e = let z : ◌≡◌ {A = ℕ} 0 1 = cc in omega arith

list≢refused : says_list ≡ says_refused → ⊥
list≢refused e = let z : ◌≡◌ {A = ℕ} 0 1 = cc in omega arith

none≢refused : says_none ≡ says_refused → ⊥
none≢refused e = let z : ◌≡◌ {A = ℕ} 0 1 = cc in omega arith

-- ---- the views of a list

module _ (views : List Line) where
  pub none_added : (ns : List ℕ) → length ns ≡ 0 → bytes "settled" ++ newline ∷ [] ≡ grant_lines views ns
  unfolding grant_lines
  none_added [] e = refl
  none_added (n ∷ ns) e = absurd (omega (arith, e))

  pub some_added : (ns : List ℕ) → (length ns ≡ 0 → ⊥) → view_list (bytes "add") views ns ≡ grant_lines views ns
  unfolding grant_lines
  some_added [] f = absurd (f refl)
  some_added (n ∷ ns) f = refl

-- ---- a refusal shows a line of the text, or none

module _ (d : Declares) (n : ℕ) (text : List ℕ) where
  bare_shown : (b : Bool) (Q : Query) (k line : ℕ) → cond b (nothing Q) (list Q) ≡ refusal k line → Shown text line
  bare_shown true Q k line e = let z : ◌≡◌ {A = ℕ} 0 1 = cc in absurd (omega arith)
  bare_shown false Q k line e = let z : ◌≡◌ {A = ℕ} 0 1 = cc in absurd (omega arith)

  read_shown : (v : Reading) → read d.widths text ≡ v → (k line : ℕ) → owed_for d v ≡ refusal k line → Shown text line
  unfolding owed_for
  read_shown (refused m j) r k line e =
      let same : j ≡ line = cc in subst (Shown text) same (query_shown d.widths text m j r)
  read_shown (accepted Q) r k line e = bare_shown (some_bare (labels d.views Q)) Q k line e

  owed_shown : (k line : ℕ) → owed d n text ≡ refusal k line → Shown text line
  unfolding owed
  owed_shown k line e = go (up_to (length d.partitions) n) e
    where
      go : (b : Bool) → cond b (owed_for d (read d.widths text)) (refusal 4 0) ≡ refusal k line → Shown text line
      go true f = read_shown (read d.widths text) refl k line f
      go false f = let z : line ≡ 0 = cc in inl z

-- ---- of a call with a buffer that has room for every list

module _ {p : Policy} {n : ℕ} {text before after : List ℕ} {r : Result (Option ℕ) Refusal} (g : GrantGiven p n text before r after)
    (room : length before ≡ most_views) (l : Loadable p) where
  abbrev d : Declares
  d = l.declared

  known_few : {Q : Query} {added : List ℕ} → Smallest d (n - 1) Q added → InRange added × (length added ≤ most_views)
  known_few {added = added} s =
      let few = (loaded_to l).good.views.few in
      let ranged : InRange added = λ v m. let k = s.known v m in (k.0, omega (arith, k.1, few)) in (
        ranged,
        (partition_size (length d.views) added (record {
          within = λ v m. (up_to_iff most_views v).1 (ranged v m);
          ascending = s.ascending;
          declared = λ v m. (s.known v m).1;
        })).most,
      )

  -- what is given, as the list of what is owed
  pub record Adds (count : ℕ) (o : Owed) : Type 0 where
    pub few : count ≤ most_views
    pub inside : count ≤ length after
    pub ranged : InRange (take count after)
    pub page : PageOf d (n - 1) text (grant_lines d.views (take count after)) o

  pub grant_given : {count : ℕ} → r ≡ Ok (Some count) → Adds count (owed d n text)
  unfolding said_granting
  grant_given {count} e = go (owed d n text) (g.loaded l)
    where
      go : (o : Owed) → Gives d (n - 1) r before after o → Adds count o
      go (refusal k j) h =
          let s : said_list count ≡ said_refused k j = rw e at h.reply in
          absurd (list≢refused (ap (λ (x : SaidGranting). x.word) s))
      go (nothing Q) h =
          let s : said_list count ≡ said_none = rw e at h.0.reply in
          absurd (list≢none (ap (λ (x : SaidGranting). x.word) s))
      go (list Q) (added, s, w) =
          let (ranged, few) = known_few s in
          let h = w.room (omega (arith, room, few)) in
          let t : said_list count ≡ said_list (length added) = rw e at h.reply in
          let c : count ≡ length added = ap (λ (x : SaidGranting). x.count) t in
          let a : take count after ≡ added = rw (h.buffer, c) (take_at added (drop (length added) before) _ refl) in
          record {
            few = omega (arith, c, few);
            inside = rw (h.buffer, c) (simp length-append (omega arith));
            ranged = subst InRange (sym a) ranged;
            page = (added, s, ap (grant_lines d.views) a);
          }

  pub grant_none : r ≡ Ok None → GrantUnder d n text none_line
  unfolding said_granting
  grant_none e = go (owed d n text) (g.loaded l)
    where
      go : (o : Owed) → Gives d (n - 1) r before after o → PageOf d (n - 1) text none_line o
      go (refusal k j) h =
          let s : said_none ≡ said_refused k j = rw e at h.reply in
          absurd (none≢refused (ap (λ (x : SaidGranting). x.word) s))
      go (nothing Q) h = (refl, h.1)
      go (list Q) (added, s, w) =
          let h = w.room (omega (arith, room, (known_few s).1)) in
          let t : said_none ≡ said_list (length added) = rw e at h.reply in
          absurd (list≢none (sym (ap (λ (x : SaidGranting). x.word) t)))

  pub grant_refused : {k line : ℕ} → r ≡ Err (record { number = k; line = line }) → Shown text line × GrantUnder d n text (query_refused text k line)
  unfolding said_granting
  grant_refused {k} {line} e = go (owed d n text) refl (g.loaded l)
    where
      go : (o : Owed) → owed d n text ≡ o → Gives d (n - 1) r before after o
          → Shown text line × PageOf d (n - 1) text (query_refused text k line) o
      go (refusal m j) f h =
          let s : said_refused k line ≡ said_refused m j = rw e at h.reply in
          let a : k ≡ m = ap (λ (x : SaidGranting). x.number) s in
          let b : line ≡ j = ap (λ (x : SaidGranting). x.line) s in
          (subst (Shown text) (sym b) (owed_shown d n text m j f), rw (a, b) refl)
      go (nothing Q) f h =
          let s : said_refused k line ≡ said_none = rw e at h.0.reply in
          absurd (none≢refused (sym (ap (λ (x : SaidGranting). x.word) s)))
      go (list Q) f (added, s, w) =
          let h = w.room (omega (arith, room, (known_few s).1)) in
          let t : said_refused k line ≡ said_list (length added) = rw e at h.reply in
          absurd (list≢refused (sym (ap (λ (x : SaidGranting). x.word) t)))

-- ---- how loading ended

pub page_refused : (policy : List ℕ) (n : ℕ) (query : List ℕ) (k line : ℕ) → load policy ≡ refused_policy k line
    → GrantPage policy n query (policy_refused policy k line)
page_refused policy n query k line e = rw e refl

pub page_accepted : (policy : List ℕ) (n : ℕ) (query page : List ℕ) (d : Declares) → load policy ≡ accepted_policy d
    → GrantUnder d n query page → GrantPage policy n query page
page_accepted policy n query page d e h = rw e h
