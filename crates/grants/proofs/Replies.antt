-- The reply and the buffer after it, case by case.
use mathlib.Core.Path.{◌≡◌, refl, sym, ap, subst, ◌∙◌}
use mathlib.Core.Bool.{Bool, true, false}
use mathlib.Core.List.{List, [], ◌++◌}
use Prim.Native.Nat.{ℕ, ◌^◌, ◌≤◌, ◌<◌}
use native.Mathlib.Decide.{ℕ_discrete, dec_lt}
use native.Mathlib.Omega.{arith}
use borrow.Author.Tests.{eq-eqb}
use lib.Dec.{T, eqb}
use lib.ListN.{length, get_or, drop, get_or-eq_default}
use Rattle.std.specs.Prelude.{Option, Some, None, Result, Ok, Err}
use Rattle.theory.proofs.Lists.{at_place, below_place, there, none_long}
use Rattle.words.specs.Bits.{half_bits}
use Rattle.model.specs.Limits.{most_lines, most_views}
use Rattle.word_list.specs.Value.{words_value}
use Rattle.word_list.specs.declared.Words.{Words}
use Rattle.word_list.proofs.Value.{count_is, word_is, words_are}
use Rattle.theory.specs.Query.{◌∈◌}
use Rattle.theory.specs.Executable.Test.{any}
use Rattle.theory.proofs.Executable.Test.{any_iff}
use Rattle.words.proofs.Answers.{true_holds}
use Rattle.model.specs.declared.Refusal.{Refusal}
use Rattle.explain.specs.Explanation.{views_of, lacking}
use Rattle.hitting.specs.Best.{Numbered}
use Rattle.label_lists.specs.HoldsLabels.{HoldsLabels}
use Rattle.label_lists.proofs.Copied.{Copied}
use Rattle.grants.specs.Searching.{hits_of, no_costs, BestFor, LabelsGranted, Lacking}
use Rattle.grants.specs.Granting.{some_bare, says_list, said_granting, said_refused, Replies, Written}
use Rattle.hitting.proofs.Compared.{best_nothing}
use Rattle.grants.proofs.Lacking.{lacking_iff, bare_lacking, lacking_few}

pub turned_back : (before : List ℕ) (n k : ℕ) → Replies (Err (record { number = n; line = k })) before (said_refused n k) before
unfolding said_granting
turned_back before n k = record { reply = refl; buffer = refl }

-- ---- the numbers of views

numbered_get : (ns : List ℕ) → Numbered ns → (i : ℕ) → get_or ns i 0 < 2 ^ half_bits
numbered_get ns n i = go (dec_lt i (length ns))
  where
    go : Dec (i < length ns) → get_or ns i 0 < 2 ^ half_bits
    go (yes h) =
        let (x, at) = below_place ns i h in
        let (from, to) = n x (at_place ns i at) in omega (arith, there ns i 0 at, to)
    go (no h) = omega (arith, get_or-eq_default ns 0 {n = i} (omega (arith, h)))

module _ {l : Words} (ns : List ℕ) (is : l ≡ words_value ns) where
  pub as_many : l.count ≡ length ns
  as_many = count_is l ns is

  -- a view's number fits 32 bits
  pub numbers_narrow : Numbered ns → (i : ℕ) → get_or l.words i 0 < 2 ^ half_bits
  numbers_narrow n i = subst (λ (x : ℕ). x < 2 ^ half_bits) (sym (word_is l ns is i)) (numbered_get ns n i)

  pub written_short : {before : List ℕ} → length before < l.count → Written (Err (record { number = 10; line = 0 })) before before ns
  written_short {before} h = record { short = λ g. turned_back before 10 0; room = λ g. absurd (omega (arith, h, g, as_many)) }

  pub written_given : {before after : List ℕ} → l.count ≤ length before → after ≡ Copied l.words l.count before
      → Written (Ok (Some l.count)) before after ns
  unfolding said_granting
  written_given {before} h copied = record {
    short = λ g. absurd (omega (arith, h, g, as_many));
    room = λ g. record {
      reply = λ i. record { word = says_list; count = as_many i; number = 0; line = 0 };
      buffer =
          copied ∙ ap (λ (v : List ℕ). v ++ drop l.count before) (words_are l ns is) ∙ ap (λ (k : ℕ). ns ++ drop k before) as_many;
    };
  }

-- nothing to write, whatever the buffer
pub written_nothing : (before : List ℕ) → Written (Ok (Some 0)) before before []
unfolding said_granting
written_nothing before = record { short = λ g. absurd (omega (arith, g)); room = λ g. record { reply = refl; buffer = refl } }

-- ---- the labels

module _ {l : Words} (granted : ℕ) (ws : List ℕ) (h : HoldsLabels l ws) {r : Words}
    (made : (k : List ℕ) → l ≡ words_value k → r ≡ words_value (lacking granted k)) where
  pub lacking_is : r ≡ words_value (lacking granted ws)
  lacking_is = made ws h.is

  few_lacking : length (lacking granted ws) ≤ most_lines
  few_lacking = omega (arith, lacking_few granted ws, h.few)

  pub lacking_count : r.count ≤ most_lines
  lacking_count = omega (arith, count_is r (lacking granted ws) lacking_is, few_lacking)

  -- a word of 0 is among them exactly where some label is bare
  pub bare_is : {b : Bool} → ((k : List ℕ) → r ≡ words_value k → b ≡ any (eqb 0) k) → b ≡ some_bare ws
  bare_is f = f (lacking granted ws) lacking_is ∙ bare_lacking granted ws

  narrow : (w : ℕ) → w ∈ lacking granted ws → w < 2 ^ most_views
  unfolding views_of
  narrow w m =
      let (x, i, e, n) = (lacking_iff granted ws w).0 m in subst (λ (y : ℕ). y < 2 ^ most_views) (sym e) (h.narrow x i)

  -- nothing lacks: the best list is empty
  pub none_best : r.count ≡ 0 → BestFor (lacking granted ws) []
  none_best e =
      subst (λ (k : List ℕ). BestFor k []) (sym (none_long (lacking granted ws) (sym (count_is r (lacking granted ws) lacking_is) ∙ e)))
      (best_nothing (hits_of []) no_costs)

  -- where none is, each holds a view
  pub lacking_some : {b : Bool} → ((k : List ℕ) → r ≡ words_value k → b ≡ any (eqb 0) k) → b ≡ false → Lacking r (lacking granted ws)
  lacking_some {b} f none = record {
    is = lacking_is;
    few = few_lacking;
    each = λ w m. (some_bit w m (ℕ_discrete w 0), narrow w m);
  }
    where
      some_bit : (w : ℕ) → w ∈ lacking granted ws → Dec (w ≡ 0) → 0 < w
      some_bit w m (no n) = omega (arith, n)
      some_bit w m (yes e) =
          let found = (any_iff (eqb 0) (lacking granted ws)).1 (w, m, true_holds (eq-eqb 0 w (sym e))) in
          absurd (subst T (sym (f (lacking granted ws) lacking_is) ∙ none) found)

-- ---- the grant for labels

module _ {granted : ℕ} {ws before : List ℕ} where
  pub granted_none : true ≡ some_bare ws → LabelsGranted granted ws before (Ok None) before
  unfolding said_granting
  granted_none b = record {
    bare = λ t. record { reply = refl; buffer = refl };
    held = λ n. absurd (n (subst T b tt));
  }

  pub granted_list : {r : Result (Option ℕ) Refusal} {after added : List ℕ} → false ≡ some_bare ws → BestFor (lacking granted ws) added
      → Written r before after added → LabelsGranted granted ws before r after
  granted_list {added = added} b best written = record {
    bare = λ t. absurd (subst T (sym b) t);
    held = λ n. (added, best, written);
  }
