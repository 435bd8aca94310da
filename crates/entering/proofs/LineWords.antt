-- The three words of a line, column by column, and those of a query, line by line.
use mathlib.Core.Path.{◌≡◌, subst}
use mathlib.Core.Logic.{◌↔◌, ◌⊎◌, inl, inr, ⊎_elim}
use mathlib.Core.Bool.{Bool, cond}
use mathlib.Core.List.{List}
use Prim.Native.Nat.{ℕ, ◌+◌, ◌*◌, ◌≤◌, ◌<◌}
use native.Mathlib.Decide.{ℕ_discrete}
use native.Mathlib.Omega.{arith}
use lib.Bits.{bit_and, bit_or}
use lib.Dec.{T}
use lib.ListN.{length, get_or, set, length-set}
use lib.Seq.{get_or-set_same, get_or-set_other}
use Rattle.theory.specs.Query.{Query}
use Rattle.theory.specs.Query.{Line as TheLine}
use Rattle.words.specs.Bits.{bit}
use Rattle.words.specs.Sets.{set_bit, Upto}
use Rattle.words.proofs.Masks.{bit_and_iff, bit_or_iff}
use Rattle.words.proofs.Marks.{upto_more, upto_all}
use Rattle.model.specs.Limits.{most_columns}
use Rattle.entering.specs.Agree.{line_at}
use Rattle.entering.specs.Laid.{Laid}
use Rattle.entering.specs.Showing.{Small}
use Rattle.entering.specs.Worded.{line_words, columns_word, hidden_word, twice_word, HiddenAt, Repeats, LineWorded, LineEntered}
use Rattle.entering.proofs.Lines.{laid_few, small_line}

-- ---- the columns of a line

-- the words of the columns before p
pub record ColumnsEntered (A : TheLine) (p c h t : ℕ) : Type 0 where
  pub columns : Upto (λ b. (n : ℕ) × HiddenAt A n b) p c
  pub variables : (n : ℕ) → (bit h n ≡ 1) ↔ ((b : ℕ) × (b < p) × HiddenAt A n b)
  pub twice : (n : ℕ) → (bit t n ≡ 1) ↔ ((r : Repeats A n) × (r.second < p))

-- one column more, whose hidden variable is the one bit of a word
module _ {A : TheLine} {p columns hidden twice : ℕ} (k : ColumnsEntered A p columns hidden twice) (w : ℕ)
    (word : (n : ℕ) → (bit w n ≡ 1) ↔ HiddenAt A n p) where
  one_more : (n : ℕ) → (bit (bit_or hidden w) n ≡ 1) ↔ ((b : ℕ) × (b < p + 1) × HiddenAt A n b)
  one_more n =
      let o = bit_or_iff hidden w n in (
        λ e. ⊎_elim (λ x. let (b, l, h) = (k.variables n).0 x in (b, omega arith, h)) (λ x. (p, omega arith, (word n).0 x)) (o.0 e),
        λ r. o.1 (go r (ℕ_discrete r.0 p)),
      )
    where
      go : (r : (b : ℕ) × (b < p + 1) × HiddenAt A n b) → Dec (r.0 ≡ p) → (bit hidden n ≡ 1) ⊎ (bit w n ≡ 1)
      go r (yes e) = inr ((word n).1 (subst (HiddenAt A n) e r.2))
      go r (no f) = inl ((k.variables n).1 (r.0, omega (arith, r.1), r.2))

  two_more : (n : ℕ) → (bit (bit_or twice (bit_and hidden w)) n ≡ 1) ↔ ((r : Repeats A n) × (r.second < p + 1))
  two_more n =
      let o = bit_or_iff twice (bit_and hidden w) n in
      let a = bit_and_iff hidden w n in (
        λ e.
            ⊎_elim (λ x. let (r, l) = (k.twice n).0 x in (r, omega arith))
            (λ x.
            let (y, z) = a.0 x in
            let (b, l, h) = (k.variables n).0 y in
            (record { first = b; second = p; apart = l; one = h; other = (word n).0 z }, omega arith)) (o.0 e),
        λ r. o.1 (go r.0 r.1 (ℕ_discrete r.0.second p)),
      )
    where
      go : (r : Repeats A n) → r.second < p + 1 → Dec (r.second ≡ p) → (bit twice n ≡ 1) ⊎ (bit (bit_and hidden w) n ≡ 1)
      go r l (yes e) =
          inr ((bit_and_iff hidden w n).1
          ((k.variables n).1 (r.first, omega (arith, r.apart, e), r.one), (word n).1 (subst (HiddenAt A n) e r.other)))
      go r l (no f) = inl ((k.twice n).1 (r, omega arith))

  pub columns_more : (on : Bool) → T on ↔ ((n : ℕ) × HiddenAt A n p)
      → ColumnsEntered A (p + 1) (cond on (set_bit columns p) columns) (bit_or hidden w) (bit_or twice (bit_and hidden w))
  columns_more on some = record { columns = upto_more on k.columns some; variables = one_more; twice = two_more }

-- ---- the words of line i

module _ (words : List ℕ) (i columns hidden twice : ℕ) where
  -- with the three of line i
  abbrev pub entered : List ℕ
  entered = set (set (set words (i * line_words) columns) (i * line_words + 1) hidden) (i * line_words + 2) twice

  abbrev with_one : List ℕ
  with_one = set words (i * line_words) columns

  abbrev with_two : List ℕ
  with_two = set with_one (i * line_words + 1) hidden

  pub entered_long : length entered ≡ length words
  entered_long = simp length-set

  pub entered_others : (j : ℕ) → j < i * line_words → get_or entered j 0 ≡ get_or words j 0
  entered_others j h =
      rw (
        get_or-set_other _ (i * line_words + 2) j twice 0 (λ e. omega arith),
        get_or-set_other _ (i * line_words + 1) j hidden 0 (λ e. omega arith),
        get_or-set_other _ (i * line_words) j columns 0 (λ e. omega arith),
      )

  module _ (room : i * line_words + line_words ≤ length words) where
    entered_columns : columns_word entered i ≡ columns
    entered_columns =
        rw (
          get_or-set_other _ (i * line_words + 2) (i * line_words) twice 0 (λ e. omega arith),
          get_or-set_other _ (i * line_words + 1) (i * line_words) hidden 0 (λ e. omega arith),
        )
        (get_or-set_same words (i * line_words) columns 0 (omega arith))

    entered_hidden : hidden_word entered i ≡ hidden
    entered_hidden =
        rw (get_or-set_other _ (i * line_words + 2) (i * line_words + 1) twice 0 (λ e. omega arith))
        (get_or-set_same with_one (i * line_words + 1) hidden 0 (simp length-set (omega arith)))

    entered_twice : twice_word entered i ≡ twice
    entered_twice = get_or-set_same with_two (i * line_words + 2) twice 0 (simp length-set (omega arith))

    pub line_entered : {A : TheLine} → length A.columns ≤ most_columns → ColumnsEntered A most_columns columns hidden twice
        → LineWorded A entered i
    line_entered few k = record {
      columns = rw entered_columns (upto_all k.columns (λ p l r. omega (arith, r.1.there)));
      variables = rw entered_hidden
          (λ n. let r = k.variables n in
          (λ e. let (b, l, h) = r.0 e in (b, h), λ s. r.1 (s.0, omega (arith, s.1.there), s.1)));
      twice = rw entered_twice
          (λ n. let r = k.twice n in (λ e. (r.0 e).0, λ s. r.1 (s, omega (arith, s.other.there))));
    }

-- ---- lines, one by one

-- the words of the lines before i
abbrev pub WordedTo : Query → ℕ → List ℕ → Type 0
WordedTo Q i words = (j : ℕ) → j < i → LineWorded (line_at Q j) words j

words_kept : {A : TheLine} {j : ℕ} {words words' : List ℕ}
    → ((k : ℕ) → k < j * line_words + line_words → get_or words' k 0 ≡ get_or words k 0) → LineWorded A words j → LineWorded A words' j
words_kept {j = j} same w = record {
  columns = rw (same (j * line_words) (omega arith)) w.columns;
  variables = rw (same (j * line_words + 1) (omega arith)) w.variables;
  twice = rw (same (j * line_words + 2) (omega arith)) w.twice;
}

pub words_more : {Q : Query} {rows before after : List ℕ} (i : ℕ) → Laid Q rows → Small Q → i < length Q → WordedTo Q i before
    → LineEntered rows i before after → WordedTo Q (i + 1) after
words_more {Q} {rows} {before} {after} i laid small l w e j h = go (ℕ_discrete j i)
  where
    go : Dec (j ≡ i) → LineWorded (line_at Q j) after j
    go (yes x) = rw x (e.line (line_at Q i) (laid.row i l) (laid_few laid i l) (small_line small i l))
    go (no f) = words_kept (λ k b. e.others k (omega arith)) (w j (omega arith))
