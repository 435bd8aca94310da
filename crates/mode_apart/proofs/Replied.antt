-- What the reply of `tell_apart` says of what is owed, and the page that follows from it.
use mathlib.Core.Path.{◌≡◌, refl, sym, ap, ◌∙◌, subst}
use mathlib.Core.Bool.{Bool, true, false, cond}
use mathlib.Core.List.{List, [], ◌∷◌}
use mathlib.Core.Logic.{inl}
use Prim.Native.Nat.{ℕ, ◌-◌, ◌*◌, ◌≤◌}
use native.Mathlib.Omega.{arith}
use lib.ListN.{length, take, drop, get_or, length-append}
use lib.Seq.{take_at}
use Rattle.std.specs.Prelude.{Result, Ok, Err}
use Rattle.theory.specs.Query.{Query}
use Rattle.theory.specs.Archive.{Row}
use Rattle.theory.specs.Executable.Label.{labels}
use Rattle.model.specs.Limits.{up_to}
use Rattle.model.specs.declared.Policy.{Policy}
use Rattle.model.specs.declared.Refusal.{Refusal}
use Rattle.query_text.specs.Text.{Reading, refused, accepted, read}
use Rattle.policy_text.specs.Declared.{Declared as Declares}
use Rattle.policy_text.specs.Policy.{views_word, policy_value}
use Rattle.policy_text.specs.Text.{load}
use Rattle.policy_text.specs.Text.{refused as refused_policy, accepted as accepted_policy}
use Rattle.validity.specs.Loadable.{Loadable}
use Rattle.labelling.specs.Settled.{settled}
use Rattle.labelling.proofs.Loaded.{loaded_to}
use Rattle.freezing.specs.Cells.{row_cells, all_cells}
use Rattle.apart.specs.Archives.{SaidTelling, said_telling, said_rows, said_settled, said_refused, says_settled, says_apart, says_refused}
use Rattle.apart.specs.Archives.{Owed, refusal, settlement, archives, owed, owed_for, most_rows, most_cells, Gives, ArchivesGiven}
use Rattle.apart.specs.declared.telling.Telling.{Telling}
use Rattle.apart.specs.declared.telling.Telling.TheVariants.{Settled, Apart}
use Rattle.page.specs.Sizes.{Shown}
use Rattle.page.specs.Refusal.{policy_refused, query_refused}
use Rattle.page.proofs.Texts.{query_shown}
use Rattle.mode_apart.specs.ApartPage.{apart_lines, settled_line, PageOf, ApartUnder, ApartPage}
use Rattle.mode_apart.specs.Rows.{TablesOf, AreRows}
use Rattle.mode_apart.proofs.Written.{rows_long}

-- ---- the words of a reply

settled≢apart : says_settled ≡ says_apart → ⊥
settled≢apart e = let z : ◌≡◌ {A = ℕ} 0 1 = cc in omega arith

settled≢refused : says_settled ≡ says_refused → ⊥
settled≢refused e = let z : ◌≡◌ {A = ℕ} 0 1 = cc in omega arith

apart≢refused : says_apart ≡ says_refused → ⊥
apart≢refused e = let z : ◌≡◌ {A = ℕ} 0 1 = cc in omega arith

-- ---- a refusal shows a line of the text, or none

module _ (d : Declares) (n : ℕ) (text : List ℕ) where
  settled_shown : (b : Bool) (Q : Query) (k line : ℕ) → cond b settlement (archives Q) ≡ refusal k line → Shown text line
  settled_shown true Q k line e = let z : ◌≡◌ {A = ℕ} 0 1 = cc in absurd (omega arith)
  settled_shown false Q k line e = let z : ◌≡◌ {A = ℕ} 0 1 = cc in absurd (omega arith)

  read_shown : (v : Reading) → read d.widths text ≡ v → (k line : ℕ) → owed_for d n most_cells v ≡ refusal k line → Shown text line
  unfolding owed_for
  read_shown (refused m j) r k line e =
      let same : j ≡ line = cc in subst (Shown text) same (query_shown d.widths text m j r)
  read_shown (accepted Q) r k line e =
      settled_shown (settled (views_word (get_or d.partitions (n - 1) [])) (labels d.views Q)) Q k line e

  owed_shown : (k line : ℕ) → owed d n text most_cells ≡ refusal k line → Shown text line
  unfolding owed
  owed_shown k line e = go (up_to (length d.partitions) n) e
    where
      go : (b : Bool) → cond b (owed_for d n most_cells (read d.widths text)) (refusal 4 0) ≡ refusal k line → Shown text line
      go true f = read_shown (read d.widths text) refl k line f
      go false f = let z : line ≡ 0 = cc in inl z

-- ---- of a call with a buffer that has room for all rows

module _ {p : Policy} {n : ℕ} {text before after : List ℕ} {r : Result Telling Refusal} (g : ArchivesGiven p n text before r after)
    (room : length before ≡ most_cells) (l : Loadable p) where
  abbrev d : Declares
  d = l.declared

  given : Gives d (n - 1) r before after (owed d n text most_cells)
  given = subst (λ (m : ℕ). Gives d (n - 1) r before after (owed d n text m)) room (g.loaded l)

  loaded_tables : TablesOf p.tables d.widths
  unfolding policy_value
  loaded_tables = record { value = ap (λ (q : Policy). q.tables) l.value; good = (loaded_to l).good.tables }

  -- the rows that are given, and their page as that of what is owed
  pub record Tells (count : ℕ) (o : Owed) : Type 0 where
    pub odd : Row
    pub others : List Row
    pub rows : AreRows p.tables (take (count * row_cells) after) (odd ∷ others)
    pub few : count ≤ most_rows
    pub inside : count * row_cells ≤ length after
    pub page : PageOf d (n - 1) text (apart_lines odd others) o

  pub apart_given : {count : ℕ} → r ≡ Ok (Apart count) → Tells count (owed d n text most_cells)
  unfolding said_telling
  apart_given {count} e = go (owed d n text most_cells) given
    where
      go : (o : Owed) → Gives d (n - 1) r before after o → Tells count o
      go (refusal k j) h =
          let s : said_rows count ≡ said_refused k j = rw e at h.reply in
          absurd (apart≢refused (ap (λ (x : SaidTelling). x.word) s))
      go settlement h =
          let s : said_rows count ≡ said_settled = rw e at h.reply in
          absurd (settled≢apart (sym (ap (λ (x : SaidTelling). x.word) s)))
      go (archives Q) (k, s, w) =
          let t : said_rows count ≡ said_rows k = rw e at s in
          let same : count ≡ k = ap (λ (x : SaidTelling). x.count) t in
          let xs = w.odd ∷ w.others in
          let all : AreRows p.tables (all_cells xs) xs
          = record { widths = d.widths; tables = loaded_tables; fit = w.apart.fit; are = refl } in
          let long : length (all_cells xs) ≡ count * row_cells
          = rows_long xs all ∙ ap (λ (m : ℕ). m * row_cells) (sym (same ∙ w.many)) in
          let front : take (count * row_cells) after ≡ all_cells xs
          = rw w.buffer (take_at (all_cells xs) (drop (length (all_cells xs)) before) (count * row_cells) long) in
          record {
            odd = w.odd;
            others = w.others;
            rows = subst (λ (m : List ℕ). AreRows p.tables m xs) (sym front) all;
            few = omega (arith, same, w.few);
            inside = rw w.buffer (simp length-append (omega (arith, long)));
            page = record { odd = w.odd; others = w.others; apart = w.apart; few = omega (arith, w.many, w.few); is = refl };
          }

  pub apart_settled : r ≡ Ok Settled → ApartUnder d n text settled_line
  unfolding said_telling
  apart_settled e = go (owed d n text most_cells) given
    where
      go : (o : Owed) → Gives d (n - 1) r before after o → PageOf d (n - 1) text settled_line o
      go (refusal k j) h =
          let s : said_settled ≡ said_refused k j = rw e at h.reply in
          absurd (settled≢refused (ap (λ (x : SaidTelling). x.word) s))
      go settlement h = refl
      go (archives Q) (k, s, w) =
          let t : said_settled ≡ said_rows k = rw e at s in
          absurd (settled≢apart (ap (λ (x : SaidTelling). x.word) t))

  pub apart_refused : {k line : ℕ} → r ≡ Err (record { number = k; line = line }) → Shown text line × ApartUnder d n text (query_refused text k line)
  unfolding said_telling
  apart_refused {k} {line} e = go (owed d n text most_cells) refl given
    where
      go : (o : Owed) → owed d n text most_cells ≡ o → Gives d (n - 1) r before after o
          → Shown text line × PageOf d (n - 1) text (query_refused text k line) o
      go (refusal m j) f h =
          let s : said_refused k line ≡ said_refused m j = rw e at h.reply in
          let a : k ≡ m = ap (λ (x : SaidTelling). x.number) s in
          let b : line ≡ j = ap (λ (x : SaidTelling). x.line) s in
          (subst (Shown text) (sym b) (owed_shown d n text m j f), rw (a, b) refl)
      go settlement f h =
          let s : said_refused k line ≡ said_settled = rw e at h.reply in
          absurd (settled≢refused (sym (ap (λ (x : SaidTelling). x.word) s)))
      go (archives Q) f (j, s, w) =
          let t : said_refused k line ≡ said_rows j = rw e at s in
          absurd (apart≢refused (sym (ap (λ (x : SaidTelling). x.word) t)))

-- ---- how loading ended

pub page_refused : (policy : List ℕ) (n : ℕ) (query : List ℕ) (k line : ℕ) → load policy ≡ refused_policy k line
    → ApartPage policy n query (policy_refused policy k line)
page_refused policy n query k line e = rw e refl

pub page_accepted : (policy : List ℕ) (n : ℕ) (query page : List ℕ) (d : Declares) → load policy ≡ accepted_policy d
    → ApartUnder d n query page → ApartPage policy n query page
page_accepted policy n query page d e h = rw e h
