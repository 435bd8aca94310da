-- The views that a policy value holds, the mask of those of one table, and the label of a line.
use mathlib.Core.Path.{◌≡◌, refl, sym, ap, ap₂, ◌∙◌, subst}
use mathlib.Core.Logic.{◌↔◌, ⊎_elim}
use mathlib.Core.Bool.{Bool, true}
use mathlib.Core.List.{List, [], ◌∷◌, ◌++◌, map}
use mathlib.Core.Option.{some, some-injective}
use Prim.Native.Nat.{ℕ, zero, suc, ◌+◌, ◌-◌, ◌*◌, ◌^◌, ◌≤◌, ◌<◌}
use native.Mathlib.Nat.{lt_of_lt_of_le}
use native.Mathlib.Omega.{arith}
use lib.ListN.{length, get_or, get_elem?, replicate}
use lib.Pow.{pow_mono}
use Rattle.words.specs.Bits.{bit, half_bits}
use Rattle.words.specs.Sets.{Without, Upto}
use Rattle.theory.specs.Query.{Line as TheLine}
use Rattle.theory.specs.Cover.{Covers}
use Rattle.theory.specs.Executable.Cover.{covers}
use Rattle.theory.specs.Executable.Label.{view_bits, label}
use Rattle.theory.proofs.Lists.{none≢some, at_place, place_below}
use Rattle.theory.proofs.Executable.Cover.{covers_iff}
use Rattle.theory.proofs.Executable.Label.{view_bits_bit}
use Rattle.model.specs.Limits.{most_views}
use Rattle.model.specs.Value.{pad, unused_line, line_value}
use Rattle.model.specs.Rows.{laid_table}
use Rattle.model.specs.declared.Line.{Line}
use Rattle.model.specs.declared.Policy.{Policy}
use Rattle.covering.specs.Views.{Holds, OfTable}
use Rattle.covering.specs.Prepared.{table_word, grant_word, table_width, free_word}
use Rattle.covering.specs.Free.{FreeAt}
use Rattle.covering.specs.Rules.{CoversRow}
use Rattle.covering.specs.Labelled.{Labelled, Reached}
use Rattle.words.proofs.Answers.{true_holds, holds_true}
use Rattle.words.proofs.Marks.{upto_set, Picked, picked_all}
use Rattle.words.proofs.Bits.{bit_cases, same_bits}
use Rattle.words.proofs.ClearBits.{low_bits_set}
use Rattle.words.proofs.TestBits.{tests_below}
use Rattle.words.proofs.Unions.{Union}

-- what the code reads behind the views' end
abbrev pub no_line : Line
no_line = record { table = 0; terms = [] }

-- ---- the value at a view's place

held_view : (views : List TheLine) (n k : ℕ) (v : TheLine) → get_elem? views k ≡ some v
    → get_or (map line_value views ++ replicate n unused_line) k no_line ≡ line_value v
held_view [] n k v e = absurd (none≢some e)
held_view (w ∷ views) n zero v e = ap line_value (some-injective w v e)
held_view (w ∷ views) n (suc k) v e = held_view views n k v e

unused_table : (n k : ℕ) → (get_or (replicate n unused_line) k no_line).table ≡ 0
unfolding unused_line
unused_table zero k = refl
unused_table (suc n) zero = refl
unused_table (suc n) (suc k) = unused_table n k

view_there : (views : List TheLine) (n k table : ℕ) → 1 ≤ table
    → (get_or (map line_value views ++ replicate n unused_line) k no_line).table ≡ table
    → (v : TheLine) × (get_elem? views k ≡ some v) × (v.table ≡ table)
unfolding line_value
view_there [] n k table first e = absurd (omega (arith, unused_table n k))
view_there (v ∷ views) n zero table first e = (v, refl, e)
view_there (v ∷ views) n (suc k) table first e = view_there views n k table first e

module _ {p : Policy} {views : List TheLine} (h : Holds p views) where
  pub view_value : (k : ℕ) (v : TheLine) → get_elem? views k ≡ some v → get_or p.views k no_line ≡ line_value v
  unfolding pad
  view_value k v e = ap (λ l. get_or l k no_line) h.is ∙ held_view views (most_views - length (map line_value views)) k v e

  -- the views of a table, once each place was looked at
  pub table_done : (table word k : ℕ) → 1 ≤ table → most_views ≤ k
      → Upto (λ j. (get_or p.views j no_line).table ≡ table) k word → OfTable views table word
  unfolding pad line_value
  table_done table word k first all built j = (
    λ e.
        view_there views (most_views - length (map line_value views)) j table first
        (sym (ap (λ l. (get_or l j no_line).table) h.is) ∙ upto_set built j e),
    λ r.
        (built.below j (omega (arith, place_below views j r.1, h.few))).1
        (ap (λ (x : Line). x.table) (view_value j r.0 r.1) ∙ r.2),
  )

-- ---- the label

-- the view at place k covers the line
abbrev pub Covering : List TheLine → TheLine → ℕ → Type 0
Covering views A k = (v : TheLine) × (get_elem? views k ≡ some v) × Covers v A

module _ {r lines : List ℕ} {a : ℕ} {views : List TheLine} {A : TheLine} (l : Labelled r lines a views A) where
  abbrev mask : ℕ
  mask = table_word r A.table

  -- the columns that the word of a view leaves out are free
  left_out : (width bound k : ℕ) → k < most_views → Without (2 ^ width - 1) (free_word r k) bound → (p : ℕ) → p < width → bit bound p ≡ 0
      → FreeAt r k p
  left_out width bound k room w p h e =
      l.free k room p
      (⊎_elim (λ z. absurd (omega (arith, e, (w.bits p).1 (low_bits_set width p h, z)))) (λ o. o) (bit_cases (free_word r k) p))

  -- what the test of covering says at a place of the table's word
  pub answered : (width bound : ℕ) → width ≡ table_width r A.table → (k : ℕ) (b : Bool) → bit mask k ≡ 1
      → Without (2 ^ width - 1) (free_word r k) bound → CoversRow bound width r k lines a b → (b ≡ true) ↔ Covering views A k
  answered width bound w k b e outside test =
      let (v, at, t) = (l.bits k).0 e in
      let wide = l.view_widths v (at_place views k at) t ∙ sym w in
      let room : k < most_views = omega (arith, place_below views k at, l.few) in
      let same : b ≡ covers v A =
      test v A (l.laid.row k v at) l.line t wide (l.line_width ∙ sym w) (left_out width bound k room outside) in (
        λ h. (v, at, (covers_iff v A).0 (true_holds (sym same ∙ h))),
        λ s.
            let here = subst (λ (w : TheLine). Covers w A) (some-injective s.0 v (sym s.1 ∙ at)) s.2 in
            same ∙ sym (holds_true (covers v A) ((covers_iff v A).1 here)),
      )

  -- once the whole word was gone through, the word made has the views that cover the line
  module _ {word : ℕ} (w : Picked (Covering views A) mask 0 word) where
    covered : (k : ℕ) → (bit word k ≡ 1) ↔ Covering views A k
    covered k = let s = picked_all w k in (λ e. (s.0 e).1, λ c. s.1 ((l.bits k).1 (c.0, c.1, c.2.table), c))

    views_word : word < 2 ^ most_views → word ≡ view_bits views A
    views_word small =
        same_bits most_views word (view_bits views A) small
        (lt_of_lt_of_le (tests_below (λ v. covers v A) views) (pow_mono l.few))
        (λ k. let v = view_bits_bit views A k in (λ e. v.1 ((covered k).0 e), λ e. (covered k).1 (v.0 e)))

    pub labelled : (table : ℕ) → table ≡ laid_table lines a → word < 2 ^ most_views → table + 2 ^ half_bits * word ≡ label views A
    unfolding label line_value
    labelled table e small = ap₂ (λ t x. t + 2 ^ half_bits * x) (e ∙ l.line.table) (views_word small)

    pub reached : {grants : ℕ} → Union (grant_word r) word grants → Reached r views A grants
    reached u i = (
      λ e. let (k, b, g) = (u.bits i).0 e in let (v, at, c) = (covered k).0 b in (k, v, at, c, g),
      λ s. (u.bits i).1 (s.0, (covered s.0).1 (s.1, s.2, s.3), s.4),
    )
