-- What the reply of `labels` says of the query text, and the page that follows from it.
use mathlib.Core.Path.{◌≡◌, refl, sym, ap, ◌∙◌}
use mathlib.Core.Bool.{Bool, true, false, cond, true≢false}
use mathlib.Core.List.{List, [], ◌∷◌}
use Prim.Native.Nat.{ℕ, suc, ◌≤◌}
use native.Mathlib.Omega.{arith}
use borrow.Author.Tests.{le-ltb}
use lib.Dec.{ltb}
use lib.ListN.{length, take, drop, length-append}
use lib.Seq.{take_at}
use Rattle.std.specs.Prelude.{Result, Ok, Err}
use Rattle.theory.specs.Query.{Query}
use Rattle.theory.specs.Executable.Label.{labels}
use Rattle.model.specs.Limits.{most_lines}
use Rattle.model.specs.declared.Policy.{Policy}
use Rattle.model.specs.declared.Refusal.{Refusal}
use Rattle.query_text.specs.Text.{Reading, refused, accepted, read}
use Rattle.policy_text.specs.Declared.{Declared}
use Rattle.policy_text.specs.Text.{load}
use Rattle.policy_text.specs.Text.{refused as refused_policy, accepted as accepted_policy}
use Rattle.validity.specs.Loadable.{Loadable}
use Rattle.word_list.specs.Order.{insert, ascending}
use Rattle.labelling.proofs.Posing.{few_labels}
use Rattle.label_lists.specs.Listing.{SaidListing, said_listing, not_listed, given, listed, list_reading, Lists, LabelsGiven}
use Rattle.page.specs.Sizes.{Shown}
use Rattle.page.proofs.Texts.{query_shown}
use Rattle.page.specs.Refusal.{policy_refused, query_refused}
use Rattle.mode_labels.specs.LabelLines.{label_lines, labels_read, labels_under, labels_loaded, labels_page}

-- ---- how many labels there are

cond_length : (b : Bool) (n : ℕ) (l m : List ℕ) → length l ≡ n → length m ≡ n → length (cond b l m) ≡ n
cond_length true n l m e f = e
cond_length false n l m e f = f

insert_length : (w : ℕ) (l : List ℕ) → length (insert w l) ≡ suc (length l)
unfolding insert
insert_length w [] = refl
insert_length w (x ∷ l) = cond_length (ltb x w) (suc (suc (length l))) (x ∷ insert w l) (w ∷ x ∷ l) (ap suc (insert_length w l)) refl

ascending_length : (l : List ℕ) → length (ascending l) ≡ length l
unfolding ascending
ascending_length [] = refl
ascending_length (w ∷ l) = insert_length w (ascending l) ∙ ap suc (ascending_length l)

-- ---- what the reply says

module _ (d : Declared) (text buffer : List ℕ) (room : length buffer ≡ most_lines) where
  abbrev list : Query → List ℕ
  list Q = ascending (labels d.views Q)

  few : (Q : Query) → read d.widths text ≡ accepted Q → length (list Q) ≤ most_lines
  few Q e = omega (arith, ascending_length (labels d.views Q), few_labels d.views d.widths text Q e)

  -- the buffer has room for every list
  fits : (Q : Query) → read d.widths text ≡ accepted Q → {r : Result ℕ Refusal} {after : List ℕ}
      → Lists r after (list_reading d buffer (accepted Q)) → Lists r after (given (list Q) buffer)
  unfolding list_reading listed
  fits Q e {r} {after} g = rw (le-ltb (length buffer) (length (list Q)) (omega (arith, room, few Q e))) at g

  reply_refused : {n k : ℕ} {after : List ℕ} → Lists (Err (record { number = n; line = k })) after (list_reading d buffer (read d.widths text))
      → read d.widths text ≡ refused n k
  unfolding list_reading not_listed said_listing given
  reply_refused {n} {k} {after} g = go (read d.widths text) refl g
    where
      go : (v : Reading) → read d.widths text ≡ v → Lists (Err (record { number = n; line = k })) after (list_reading d buffer v) → read d.widths text ≡ refused n k
      go (refused m j) e h =
          let a : n ≡ m = ap (λ (s : SaidListing). s.number) h.reply in
          let b : k ≡ j = ap (λ (s : SaidListing). s.line) h.reply in
          cc
      go (accepted Q) e h =
          absurd (true≢false (sym (ap (λ (s : SaidListing). s.given) (fits Q e h).reply)))

  record Labels (count : ℕ) (after : List ℕ) : Type 0 where
    pub query : Query
    pub reads : read d.widths text ≡ accepted query
    pub within : count ≤ most_lines
    pub inside : count ≤ length after
    pub are : take count after ≡ list query

  reply_given : {count : ℕ} {after : List ℕ} → Lists (Ok count) after (list_reading d buffer (read d.widths text))
      → Labels count after
  unfolding list_reading not_listed said_listing given
  reply_given {count} {after} g = go (read d.widths text) refl g
    where
      go : (v : Reading) → read d.widths text ≡ v → Lists (Ok count) after (list_reading d buffer v) → Labels count after
      go (refused m j) e h = absurd (true≢false (ap (λ (s : SaidListing). s.given) h.reply))
      go (accepted Q) e h =
          let l = fits Q e h in
          let n : count ≡ length (list Q) = ap (λ (s : SaidListing). s.count) l.reply in
          record {
            query = Q;
            reads = e;
            within = omega (arith, n, few Q e);
            inside = rw (l.buffer, n) (simp length-append (omega arith));
            are = rw (l.buffer, n) (take_at (list Q) (drop (length (list Q)) buffer) _ refl);
          }

  page_given : {count : ℕ} {after : List ℕ} → Labels count after → label_lines (take count after) ≡ labels_under d text
  unfolding labels_under labels_read
  page_given l = rw (l.reads, l.are)

page_turned : (d : Declared) (text : List ℕ) (n k : ℕ) → read d.widths text ≡ refused n k
    → query_refused text n k ≡ labels_under d text
unfolding labels_under labels_read
page_turned d text n k e = rw e

-- ---- of a call with a buffer that has room for every list

module _ {p : Policy} {text before after : List ℕ} {r : Result ℕ Refusal} (g : LabelsGiven p text before r after) (room : length before ≡ most_lines)
    (l : Loadable p) where
  pub labels_told : {count : ℕ} → r ≡ Ok count
      → (count ≤ most_lines) × (count ≤ length after) × (label_lines (take count after) ≡ labels_under l.declared text)
  labels_told e =
      let m = reply_given l.declared text before room (rw e at (g.loaded l)) in
      (m.within, m.inside, page_given l.declared text before room m)

  pub labels_untold : {n k : ℕ} → r ≡ Err (record { number = n; line = k }) → Shown text k × (query_refused text n k ≡ labels_under l.declared text)
  labels_untold {n} {k} e =
      let m = reply_refused l.declared text before room (rw e at (g.loaded l)) in
      (query_shown l.declared.widths text n k m, page_turned l.declared text n k m)

-- ---- how loading ended

pub page_refused : (policy query : List ℕ) (n k : ℕ) → load policy ≡ refused_policy n k → policy_refused policy n k ≡ labels_page policy query
unfolding labels_page labels_loaded
page_refused policy query n k e = rw e

pub page_accepted : (policy query : List ℕ) (d : Declared) → load policy ≡ accepted_policy d → labels_under d query ≡ labels_page policy query
unfolding labels_page labels_loaded
page_accepted policy query d e = rw e
