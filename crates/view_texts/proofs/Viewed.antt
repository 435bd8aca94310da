-- The text of views, from the pieces that it is written in; and a view of a loaded policy.
use mathlib.Core.Path.{◌≡◌, sym, ap, ◌∙◌}
use mathlib.Core.List.{List, [], ◌∷◌, ◌++◌, map, append_assoc, append-nil}
use Prim.Native.Nat.{ℕ, ◌+◌, ◌-◌, ◌≤◌, ◌<◌}
use native.Mathlib.Decide.{dec_lt}
use native.Mathlib.Numerals.{add-one}
use native.Mathlib.Omega.{arith}
use lib.ListN.{length, take, get_or, get_or-map, get_or-eq_default, length-map}
use lib.Seq.{take-suc}
use Rattle.theory.specs.Query.{Line as TheLine}
use Rattle.theory.proofs.Tuples.{get_d_mem}
use Rattle.text.specs.Lines.{space, newline}
use Rattle.text.specs.Print.{decimal, joined, joined_by}
use Rattle.model.specs.Limits.{most_columns, most_views}
use Rattle.model.specs.Print.{line_fields, print_line, print_query_line}
use Rattle.model.specs.Value.{unused_term, terms_value, pad, line_value, unused_line}
use Rattle.model.specs.declared.Line.{Line}
use Rattle.model.specs.declared.Policy.{Policy}
use Rattle.model.proofs.Limits.{up_to_iff}
use Rattle.model.proofs.Pad.{pad_length, pad_get}
use Rattle.model.proofs.Values.{width_is}
use Rattle.policy_text.specs.Declared.{Declared}
use Rattle.policy_text.specs.Policy.{policy_value}
use Rattle.policy_text.specs.WellFormed.{GoodWidth}
use Rattle.validity.proofs.Lists.{any_default}
use Rattle.validity.proofs.Views.{no_line}
use Rattle.entering.specs.Agree.{line_at}
use Rattle.labelling.specs.Text.{LoadedTo}
use Rattle.writing.specs.Wrote.{Wrote}
use Rattle.writing.proofs.Wrote.{wrote_as, wrote_more}
use Rattle.printing.specs.Printing.{LinePut}
use Rattle.page.specs.Numbers.{spaced_numbers}
use Rattle.page.specs.Refusal.{indented}
use Rattle.page.proofs.Refused.{cons_append}
use Rattle.view_texts.specs.ViewTexts.{view_text, view_texts, view_list, ViewPut}

-- ---- a view

view_pieces : (n : ℕ) (A : TheLine)
    → ((space ∷ space ∷ []) ++ (decimal n ++ space ∷ [])) ++ (print_query_line A ++ newline ∷ []) ≡ view_text n A
unfolding view_text indented print_line print_query_line joined joined_by line_fields
view_pieces n A = simp (append_assoc, cons_append)

pub view_put : (n : ℕ) {view : Line} {o₀ o₁ o₂ o₃ : List ℕ} {at a b r : ℕ} → Wrote o₀ at (space ∷ space ∷ []) o₁ a
    → Wrote o₁ a (decimal n ++ space ∷ []) o₂ b → LinePut view o₂ b o₃ r → ViewPut n view o₀ at o₃ r
view_put n u v w A e few = wrote_as (view_pieces n A) (wrote_more (wrote_more u v) (w A e few))

-- ---- a view of a loaded policy

module _ {p : Policy} {d : Declared} (l : LoadedTo p d) (k : ℕ) (h : k < most_views) where
  pub view_value : get_or p.views k no_line ≡ line_value (line_at d.views k)
  unfolding policy_value line_at line_value terms_value pad unused_line unused_term
  view_value =
      let values = map line_value d.views in
      let few : length values ≤ most_views = rw (length-map d.views line_value) l.good.views.few in
      ap (λ (q : Policy). get_or q.views k no_line) l.policy
      ∙ any_default no_line unused_line (pad most_views unused_line values) k (omega (arith, pad_length most_views unused_line values few))
      ∙ pad_get most_views unused_line values k
      ∙ get_or-map line_value d.views k (record { table = 0; columns = [] })

  pub view_narrow : length (line_at d.views k).columns ≤ most_columns
  unfolding line_at
  view_narrow = go (dec_lt k (length d.views))
    where
      go : Dec (k < length d.views) → length (get_or d.views k (record { table = 0; columns = [] })).columns ≤ most_columns
      go (yes i) =
          let A = get_or d.views k (record { table = 0; columns = [] }) in
          let fits = (l.good.views.each A (get_d_mem d.views k (record { table = 0; columns = [] }) i)).fits in
          ((up_to_iff most_columns _).0 (width_is GoodWidth d.widths l.good.tables.each A fits)).1
      go (no i) = rw (get_or-eq_default d.views (record { table = 0; columns = [] }) {n = k} (omega arith)) (omega arith)

-- ---- views

texts_last : (views : List TheLine) (l : List ℕ) (n : ℕ)
    → view_texts views l ++ view_text n (line_at views (n - 1)) ≡ view_texts views (l ++ n ∷ [])
unfolding view_texts
texts_last views [] n = sym (append-nil (view_text n (line_at views (n - 1))))
texts_last views (x ∷ l) n =
    append_assoc (view_text x (line_at views (x - 1))) (view_texts views l) (view_text n (line_at views (n - 1)))
    ∙ ap (λ (m : List ℕ). view_text x (line_at views (x - 1)) ++ m) (texts_last views l n)

pub wrote_view : {a b c : List ℕ} {at j k : ℕ} (views : List TheLine) (ns : List ℕ) (i n : ℕ) → Wrote a at (view_texts views (take i ns)) b j
    → Wrote b j (view_text n (line_at views (n - 1))) c k → n ≡ get_or ns i 0 → i < length ns
    → Wrote a at (view_texts views (take (i + 1) ns)) c k
wrote_view views ns i n v w e h =
    wrote_as
    (texts_last views (take i ns) n ∙ ap (λ (m : ℕ). view_texts views (take i ns ++ m ∷ [])) e
    ∙ ap (view_texts views) (sym (take-suc ns i 0 h) ∙ ap (λ (m : ℕ). take m ns) (sym (add-one i))))
    (wrote_more v w)

list_pieces : (said ns texts : List ℕ) → ((said ++ ns) ++ newline ∷ []) ++ texts ≡ said ++ ns ++ newline ∷ texts
list_pieces said ns texts = simp (append_assoc, cons_append)

pub wrote_list : (said : List ℕ) (views : List TheLine) (ns : List ℕ) {o₀ o₁ o₂ o₃ o₄ : List ℕ} {at a b c r : ℕ} → Wrote o₀ at said o₁ a
    → Wrote o₁ a (spaced_numbers ns) o₂ b → Wrote o₂ b (newline ∷ []) o₃ c → Wrote o₃ c (view_texts views ns) o₄ r
    → Wrote o₀ at (view_list said views ns) o₄ r
unfolding view_list
wrote_list said views ns u v w x =
    wrote_as (list_pieces said (spaced_numbers ns) (view_texts views ns)) (wrote_more (wrote_more (wrote_more u v) w) x)
