-- Terms as they are written behind a line's table: one, and one more behind others.
use mathlib.Core.Path.{◌≡◌, refl, sym, ◌∙◌, subst}
use mathlib.Core.Bool.{true}
use mathlib.Core.List.{List, [], ◌∷◌, ◌++◌}
use Prim.Native.Nat.{ℕ, ◌+◌, ◌≤◌, ◌<◌}
use native.Mathlib.Decide.{ℕ_discrete}
use native.Mathlib.Omega.{arith}
use borrow.Author.Tests.{ne_eqb}
use lib.Dec.{T, le→leb}
use lib.Ieee.Bits.{is_true}
use lib.ListN.{length, get_or, set, length-append}
use Rattle.words.proofs.Answers.{true_holds}
use Rattle.theory.specs.Query.{Term, constant, shown, hidden}
use Rattle.theory.specs.Executable.Test.{all, kind, number}
use Rattle.theory.proofs.Executable.Test.{all_iff}
use Rattle.text.specs.Lines.{space}
use Rattle.text.specs.Numeral.{constant_limit}
use Rattle.text.specs.Print.{decimal}
use Rattle.text.proofs.Each.{each_last}
use Rattle.model.specs.Fields.{constant_byte, shown_byte, hidden_byte}
use Rattle.model.specs.Limits.{most_columns, last_variable, term_within}
use Rattle.model.specs.Marks.{mark_of, number_within, with_mark}
use Rattle.model.specs.Parsed.{with_shown, with_hidden, bits_of}
use Rattle.model.specs.Print.{print_term, spaced}
use Rattle.model.specs.Value.{term_value, terms_value}
use Rattle.model.specs.declared.Term.{Term as TermValue}
use Rattle.model.proofs.Spaced.{spaced_more}
use Rattle.model.proofs.TermFields.{variable_small}
use Rattle.model.proofs.Terms.{terms_more, bits_more, mark_shown, mark_hidden}
use Rattle.scan.specs.Places.{Between, NumeralThere}
use Rattle.scan.specs.TermsAt.{TermThere, HoldsTerms}
use Rattle.scan.specs.declared.numbers.Number.{Number}
use Rattle.scan.specs.declared.terms.TermEnd.{TermEnd}
use Rattle.scan.specs.declared.terms.Terms.{Terms}
use Rattle.scan.proofs.Places.{between_none, between_two, between_both}

-- ---- a term

-- the byte b is a mark, and behind it the number n is within the limit
record IsTerm (b n : ℕ) : Type 0 where
  term : Term
  value : record { mark = mark_of b; number = n } ≡ term_value term
  within : T (term_within term)
  printed : b ∷ decimal n ≡ print_term term

is_term : (b n : ℕ) → (mark_of b ≡ 0 → ⊥) → n ≤ constant_limit → number_within (mark_of b) n ≡ true → IsTerm b n
unfolding mark_of number_within term_value term_within print_term kind number
is_term b n some most small = go (ℕ_discrete b constant_byte) (ℕ_discrete b shown_byte) (ℕ_discrete b hidden_byte)
  where
    by : (x : ℕ) → b ≡ x → (number_within (mark_of x) n ≡ true → IsTerm x n) → IsTerm b n
    by x e f = subst (λ (y : ℕ). IsTerm y n) (sym e) (f (rw e at small))

    go : Dec (b ≡ constant_byte) → Dec (b ≡ shown_byte) → Dec (b ≡ hidden_byte) → IsTerm b n
    go (yes e) p q =
        by constant_byte e (λ h. record { term = constant n; value = refl; within = le→leb n constant_limit most; printed = refl })
    go (no d) (yes e) q =
        by shown_byte e (λ h. record { term = shown n; value = refl; within = true_holds h; printed = refl })
    go (no d) (no e) (yes f) =
        by hidden_byte f (λ h. record { term = hidden n; value = refl; within = true_holds h; printed = refl })
    go (no d) (no e) (no f) = absurd (some (rw (ne_eqb b constant_byte d, ne_eqb b shown_byte e, ne_eqb b hidden_byte f)))

pub term_there : {text : List ℕ} (at m : ℕ) (n : Number) → at + 1 < length text → get_or text at 0 ≡ space → m ≡ mark_of (get_or text (at + 1) 0)
    → (m ≡ 0 → ⊥) → NumeralThere text (at + 2) n → number_within m n.value ≡ true
    → TermThere text at (record { term = record { mark = m; number = n.value }; end = n.end })
term_there {text} at m n h s e some digits small =
    let b = get_or text (at + 1) 0 in
    let same : ◌≡◌ {A = TermValue} (record { mark = m; number = n.value }) (record { mark = mark_of b; number = n.value })
    = λ i. record { mark = e i; number = n.value } in
    let t = is_term b n.value (λ z. some (e ∙ z)) digits.within (rw e at small) in
    record {
      is = t.term;
      value = same ∙ t.value;
      within = t.within;
      there = rw t.printed at (between_both (between_two at space b h s refl) digits.there);
    }

-- a variable's number is a bit of a word
pub term_small : {text : List ℕ} {at : ℕ} {r : TermEnd} → TermThere text at r → (mark : ℕ) → 1 < mark → r.term.mark ≡ mark
    → r.term.number ≤ last_variable
term_small {r = r} t mark h e =
    let variable : 1 < r.term.mark = rw e h in
    rw t.value (variable_small t.is (is_true (term_within t.is) t.within) (rw t.value at variable))

-- ---- the terms before a place

-- so many terms stand before r's place, and r holds them
pub record TermsTo (text : List ℕ) (start n : ℕ) (r : Terms) : Type 0 where
  pub are : List Term
  pub count : length are ≡ n
  pub holds : HoldsTerms r are
  pub there : Between text start r.end (spaced are)

pub terms_none : {text : List ℕ} (start : ℕ) → start ≤ length text
    → TermsTo text start 0 (record { end = start; terms = terms_value []; shown = 0; hidden = 0 })
unfolding spaced all bits_of
terms_none start h =
    record {
      are = [];
      count = refl;
      holds = record { within = tt; held = refl; shown_bits = refl; hidden_bits = refl };
      there = between_none start h;
    }

-- one term more
pub terms_one_more : {text : List ℕ} {start c : ℕ} {r : Terms} {t : TermEnd} (s h : ℕ) → TermsTo text start c r → TermThere text r.end t
    → c < most_columns → s ≡ with_mark 2 r.shown t.term → h ≡ with_mark 3 r.hidden t.term
    → TermsTo text start (c + 1) (record { end = t.end; terms = set r.terms c t.term; shown = s; hidden = h })
terms_one_more {text} {start} {c} {r} {t} s h w u room es eh =
    let ts = w.are in
    record {
      are = ts ++ u.is ∷ [];
      count = length-append ts (u.is ∷ []) ∙ rw w.count;
      holds =
          record {
            within = (all_iff term_within (ts ++ u.is ∷ [])).1
                (each_last (λ x. T (term_within x)) ts u.is ((all_iff term_within ts).0 w.holds.within) u.within);
            held = rw (w.holds.held, u.value, ← w.count) (terms_more ts u.is (omega (arith, w.count)));
            shown_bits = es ∙ rw (w.holds.shown_bits, u.value, bits_more) (mark_shown (bits_of with_shown 0 ts) u.is);
            hidden_bits = eh ∙ rw (w.holds.hidden_bits, u.value, bits_more) (mark_hidden (bits_of with_hidden 0 ts) u.is);
          };
      there = rw (spaced_more ts u.is) (between_both w.there u.there);
    }
